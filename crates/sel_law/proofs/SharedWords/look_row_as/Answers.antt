use Rattle.std.proofs.Common.{arith}
use Rattle.sel_law.proofs.Steps.{looks_row_at, row_inside}
use Rattle.sel_law.proofs.SharedWords.look_row_as.Goals as goal

pub load-requires : goal.load-requires
load-requires g c =
    let q = c.requires.word in let k = c.requires.key in
    let w = row_inside c.args.self.now.table.shared.key q.0 c.args.word q.2 q.1 in
    (c.requires.of, omega arith, looks_row_at c.args.self.now.table.shared.key c.args.self.now.table.shared.table_id.slots c.args.seat.now.id c.args.seat.now.me g.J.Doing.asks g.J.Doing.key g.J.Doing.ask k.0 k.1 k.2 q.0 c.args.word q.2 q.1 k.3)
