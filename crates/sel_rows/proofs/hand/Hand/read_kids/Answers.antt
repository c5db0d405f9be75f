use Rattle.std.proofs.Common.{◌∙◌}
use Rattle.sel_rows.proofs.Growth.{grown_then}
use Rattle.sel_rows.proofs.KidSets.{readable_grown, read_grown}
use Rattle.sel_rows.proofs.hand.Hand.read_kids.Goals as goal

pub read_kid-requires-2 : goal.read_kid-requires-2
read_kid-requires-2 g c = record { readable = readable_grown g.J.Doing.asks c.args.self.now.seat.me.0 c.read_kid.new.self.seat.me.0 c.read_kid.ensures.grown c.args.kids.1 c.requires.readable.1 }

pub returns-in_err-second-clause-grown : goal.returns-in_err-second-clause-grown
returns-in_err-second-clause-grown g c = grown_then g.J.Doing.asks c.args.self.now.seat.me.0 c.read_kid.new.self.seat.me.0 c.read_kid-2.new.self.seat.me.0 c.read_kid.ensures.grown c.read_kid-2.ensures.grown

pub returns-clause-grown : goal.returns-clause-grown
returns-clause-grown g c = grown_then g.J.Doing.asks c.args.self.now.seat.me.0 c.read_kid.new.self.seat.me.0 c.read_kid-2.new.self.seat.me.0 c.read_kid.ensures.grown c.read_kid-2.ensures.grown

pub returns-clause-read : goal.returns-clause-read
returns-clause-read g c =
    let u = c.args.self.now.seat.me.0 in
    let v = c.read_kid.new.self.seat.me.0 in
    (c.in_ok-first.ensures.read, c.in_ok-second.ensures.read ∙ read_grown g.J.Doing.asks u v c.read_kid.ensures.grown c.args.kids.1 c.requires.readable.1)
