use Rattle.std.proofs.Common.{length}
use Rattle.sel_check.proofs.Items.{NumbersSoFar}
use Rattle.sel_check.proofs.entries.numbers.Given as goal

abbrev pub invariant-parts : goal.invariant-parts
invariant-parts l = NumbersSoFar l.bytes l.rest l.numbers.items

abbrev pub decreases-parts : goal.decreases-parts
decreases-parts l = length l.rest
