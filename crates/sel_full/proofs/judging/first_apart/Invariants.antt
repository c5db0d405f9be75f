use Rattle.std.proofs.Common.{ℕ, ◌<◌}
use Rattle.sel_full.specs.Judging.{AreApart}
use Rattle.sel_full.proofs.judging.first_apart.Given as goal

abbrev pub invariant-loop-place : goal.invariant-loop-place
invariant-loop-place l = (p : ℕ) → p < l.place → AreApart l.own l.numbers p → ⊥
