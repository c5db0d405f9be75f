use Rattle.std.proofs.Common.{length}
use Rattle.sel_rows_threads.proofs.closed.are_different.Given as goal

abbrev pub invariant-loop-state : goal.invariant-loop-state
invariant-loop-state l = Unit {0}

abbrev pub decreases-loop-state : goal.decreases-loop-state
decreases-loop-state l = length l.others
