use Rattle.std.proofs.Common.{arith}
use Rattle.sel_law.proofs.Steps.{stands_at}
use Rattle.sel_law.proofs.SharedWords.stand_as.Goals as goal

pub compare_exchange-requires : goal.compare_exchange-requires
compare_exchange-requires g c =
    let p = c.requires.place.0 in
    (c.requires.of, omega arith, stands_at c.args.self.now.table.shared.key c.args.self.now.table.shared.table_id.slots c.args.seat.now.id c.args.seat.now.me g.J.Doing.asks g.J.Doing.number c.args.number c.requires.own.0 c.requires.own.3 c.requires.own.2 c.requires.whole c.requires.asked.0 c.requires.asked.1 c.requires.asked.2 c.args.place p c.requires.place.2)
