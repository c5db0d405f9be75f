use Rattle.sel_items.proofs.Rows.{LeastBelow}
use Rattle.sel_items.proofs.reduction.least_cost.Given as goal

abbrev pub invariant-loop-n : goal.invariant-loop-n
invariant-loop-n l = LeastBelow l.entries l.n l.least
