use Rattle.std.proofs.Common.{arith}
use Rattle.sel_law.proofs.Parts.{cuts}
use Rattle.sel_law.proofs.SharedWords.split.Goals as goal

pub split_seat-requires : goal.split_seat-requires
split_seat-requires c = (c.requires.of, omega arith, cuts c.args.self.now.table.shared.key c.args.seat.now.id c.args.seat.now.me.0 c.requires.left.0 c.requires.left.1 c.requires.left.2)
