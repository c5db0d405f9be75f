use Rattle.std.proofs.Common.{ℕ, ◌<◌}
use Rattle.sel_check.specs.Bounding.{KeepsRules}
use Rattle.sel_check.proofs.bounds.first_broken.Given as goal

abbrev pub invariant-loop-at : goal.invariant-loop-at
invariant-loop-at l = (j : ℕ) → j < l.at → KeepsRules l.grammar l.nodes l.costs j
