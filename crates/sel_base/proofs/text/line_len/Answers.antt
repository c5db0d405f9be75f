use Rattle.std.proofs.Common.{sym}
use Rattle.sel_base.proofs.LineEnds.{feed_at, no_feed}
use Rattle.sel_base.proofs.text.line_len.Goals as goal

pub returns-in-Some-clause-len : goal.returns-in-Some-clause-len
returns-in-Some-clause-len c = sym (feed_at c.args.bytes.now c.in-Some.at c.in-Some.ensures)

pub returns-in-None-clause-len : goal.returns-in-None-clause-len
returns-in-None-clause-len c = sym (no_feed c.args.bytes.now c.in-None.ensures)
