-- What an assignment is to its caller.
use Rattle.std.specs.Prelude.{◌≡◌, ℕ, ◌<◌, ◌≤◌, List, Some, length, slice_get}
use Rattle.sel_regs.specs.Lives.{Lines, needs}
use Rattle.sel_regs.specs.Scans.{IsScan}

-- The scan of the lines, for each temporary from 1 to `temps`. So many registers are enough, and each is one of them.
pub record IsAssigned (lines : Lines) (temps registers : ℕ) (of : List ℕ) : Type 0 where
  pub scan : IsScan lines of
  pub long : length of ≡ temps
  pub enough : needs lines temps ≤ registers
  pub within : (i r : ℕ) → slice_get of i ≡ Some r → r < registers
