-- Assignments of registers, and the one that a scan of the lines makes.
use Rattle.std.specs.Prelude.{◌≡◌, ℕ, zero, suc, ◌<◌, ◌⊎◌, true, Option, Some, None, List, slice_get}
use Rattle.sel_regs.specs.Lives.{Lines, first_line, is_live}

-- the register of a temporary, of which the first is 1
abbrev pub register_of : List ℕ → ℕ → Option ℕ
register_of registers zero = None
register_of registers (suc k) = slice_get registers k

-- no two temporaries that are live on one line have one register
abbrev pub ShareNone : Lines → List ℕ → Type 0
ShareNone lines registers = (i j k r : ℕ) → is_live lines i j ≡ true → is_live lines i k ≡ true → register_of registers j ≡ Some r → register_of registers k ≡ Some r → j ≡ k

-- temporaries are taken in the order of their first lines, equal ones by number
abbrev pub IsBefore : Lines → ℕ → ℕ → Type 0
IsBefore lines j k = (first_line lines j < first_line lines k) ⊎ ((first_line lines j ≡ first_line lines k) × (j < k))

-- a temporary that is taken before k, and live on its first line, has the register
pub record IsTaken (lines : Lines) (registers : List ℕ) (k r : ℕ) : Type 0 where
  pub by : ℕ
  pub before : IsBefore lines by k
  pub live : is_live lines (first_line lines k) by ≡ true
  pub has : register_of registers by ≡ Some r

-- each temporary has the lowest register that isn't taken
pub record IsScan (lines : Lines) (registers : List ℕ) : Type 0 where
  pub free : (k r : ℕ) → register_of registers k ≡ Some r → IsTaken lines registers k r → ⊥
  pub lowest : (k r q : ℕ) → register_of registers k ≡ Some r → q < r → IsTaken lines registers k q
