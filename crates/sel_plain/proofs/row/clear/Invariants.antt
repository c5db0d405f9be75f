use Rattle.sel_plain.proofs.Entries.{IsClearTo}
use Rattle.sel_plain.proofs.row.clear.Given as goal

abbrev pub invariant-loop-n : goal.invariant-loop-n
invariant-loop-n l = IsClearTo l.n l.row
