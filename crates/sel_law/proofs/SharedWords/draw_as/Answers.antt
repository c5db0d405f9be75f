use Rattle.std.proofs.Common.{arith}
use Rattle.sel_law.proofs.Draw.{draws}
use Rattle.sel_law.proofs.SharedWords.draw_as.Goals as goal

pub fetch_add-requires : goal.fetch_add-requires
fetch_add-requires g c = (c.requires.of, omega arith, draws c.args.self.now.table.shared.key c.args.self.now.table.shared.table_id.slots c.args.seat.now.id c.args.seat.now.me g.J.Doing.asks c.requires.may.0 c.requires.may.1 c.requires.may.2)
