use Rattle.std.proofs.Common.{arith}
use Rattle.sel_plain.proofs.Entries.{IsClearTo-more, all_clear}
use Rattle.sel_plain.proofs.row.clear.Goals as goal

pub returns : goal.returns
returns c = all_clear c.loop-n.row c.loop-n.n (omega arith) c.loop-n.invariant

pub loop-n-preserved : goal.loop-n-preserved
loop-n-preserved c = IsClearTo-more c.loop-n.row c.loop-n.n (omega arith) c.loop-n.invariant
