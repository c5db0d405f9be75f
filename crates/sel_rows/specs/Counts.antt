-- Counts of evaluations.
use Rattle.std.specs.Prelude.{◌≡◌, ℕ, ◌+◌, ◌-◌, ◌<◌, ◌^◌, ◌⊎◌, min}

-- a sum that stops at the greatest number of 64 bits
abbrev pub counted : ℕ → ℕ → ℕ
counted m n = min (m + n) (2 ^ 64 - 1)

-- the count rises by one exactly where the counter of steps takes a step
abbrev pub CountsSteps : ℕ → ℕ → ℕ → ℕ → Type 0
CountsSteps count count' steps steps' = ((count' ≡ count) × (steps' ≡ steps)) ⊎ ((count' ≡ counted count 1) × (steps < steps'))
