use Rattle.std.proofs.Common.{length, ◌-◌, ◌<◌, ◌≤◌, ℕ}
use Rattle.sel_c.specs.Operators.{HasNumber}
use Rattle.sel_c.proofs.operators.find.Given as goal

abbrev pub invariant-operators : goal.invariant-operators
invariant-operators l = (l.number ≤ length l.operators) × ((k : ℕ) → k < l.number → HasNumber l.operators l.name k → ⊥)

abbrev pub decreases-operators : goal.decreases-operators
decreases-operators l = length l.operators - l.number
