use Rattle.std.proofs.Common.{arith}
use Rattle.sel_law.proofs.Steps.{drafts_at, content_inside}
use Rattle.sel_law.proofs.SharedWords.draft_as.Goals as goal

pub store-requires : goal.store-requires
store-requires g c =
    let w = content_inside c.args.self.now.table.shared.key g.J.Doing.number g.J.Doing.index c.args.word c.requires.word c.requires.inside.0 c.requires.inside.1 in
    (c.requires.of, omega arith, drafts_at c.args.self.now.table.shared.key c.args.self.now.table.shared.table_id.slots c.args.seat.now.id c.args.seat.now.me g.J.Doing.asks g.J.Doing.number g.J.Doing.index c.args.word c.args.entry c.requires.word c.requires.own.2 c.requires.own.0 c.requires.inside.1 c.requires.own.1)
