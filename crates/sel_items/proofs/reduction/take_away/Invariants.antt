use Rattle.sel_items.proofs.Rows.{IsReducedTo}
use Rattle.sel_items.proofs.reduction.take_away.Given as goal

abbrev pub invariant-loop-n : goal.invariant-loop-n
invariant-loop-n l = IsReducedTo l.n l.least l.initial.entries l.entries
