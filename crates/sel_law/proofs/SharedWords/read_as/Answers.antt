use Rattle.std.proofs.Common.{arith}
use Rattle.sel_law.proofs.Steps.{reads_at, content_inside}
use Rattle.sel_law.proofs.SharedWords.read_as.Goals as goal

pub load-requires : goal.load-requires
load-requires g c =
    let w = content_inside c.args.self.now.table.shared.key g.J.Doing.number g.J.Doing.index c.args.word c.requires.word c.requires.inside.0 c.requires.inside.1 in
    (c.requires.of, omega arith, reads_at c.args.self.now.table.shared.key c.args.self.now.table.shared.table_id.slots c.args.seat.now.id c.args.seat.now.me g.J.Doing.asks g.J.Doing.number g.J.Doing.index c.args.word c.requires.word c.requires.inside.1 c.requires.held.0 c.requires.held.1)
