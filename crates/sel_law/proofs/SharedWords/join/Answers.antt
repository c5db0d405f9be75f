use Rattle.std.proofs.Common.{arith}
use Rattle.sel_law.proofs.Parts.{glues}
use Rattle.sel_law.proofs.SharedWords.join.Goals as goal

pub join_seat-requires : goal.join_seat-requires
join_seat-requires c = (c.requires.of.0, c.requires.of.1, c.requires.idle, omega arith, glues c.args.self.now.table.shared.key c.args.seat.now.id c.args.seat.now.me.0 c.args.other.id c.args.other.me.0 c.requires.seats.0 c.requires.seats.1)
