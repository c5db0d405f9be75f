use Rattle.std.proofs.Common.{arith}
use Rattle.sel_law.proofs.Steps.{places_at, row_inside}
use Rattle.sel_law.proofs.SharedWords.place_as.Goals as goal

pub compare_exchange-requires : goal.compare_exchange-requires
compare_exchange-requires g c =
    let q = c.requires.word in let k = c.requires.key in let n = c.requires.number in
    let w = row_inside c.args.self.now.table.shared.key q.0 c.args.word q.2 q.1 in
    (c.requires.of, omega arith, places_at c.args.self.now.table.shared.key c.args.self.now.table.shared.table_id.slots c.args.seat.now.id c.args.seat.now.me g.J.Doing.asks g.J.Doing.key g.J.Doing.ask k.0 k.1 k.2 g.J.Doing.number c.args.new n.2.0 n.0 n.1 n.2.1 n.2.2 q.0 c.args.word q.2 q.1 q.3 k.3)
