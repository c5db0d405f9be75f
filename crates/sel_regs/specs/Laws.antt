-- Laws of scans.
use Rattle.std.specs.Prelude.{◌≡◌, ℕ, ◌<◌, ◌≤◌, List, Some, length}
use Rattle.sel_regs.specs.Lives.{Lines, IsNamed, needs}
use Rattle.sel_regs.specs.Scans.{register_of, ShareNone, IsScan}

-- By a scan no two temporaries that are live on one line have one register.
abbrev pub NoneShare : Type 0
NoneShare = (lines : Lines) (registers : List ℕ) → IsScan lines registers → ShareNone lines registers

-- A scan gives the temporaries that are named fewer registers than are live on some line.
abbrev pub ScansFit : Type 0
ScansFit = (lines : Lines) (registers : List ℕ) (k r : ℕ) → IsNamed lines k → IsScan lines registers → register_of registers k ≡ Some r → r < needs lines (length registers)

-- No assignment without sharing gives the temporaries that are named fewer registers than are live on some line.
abbrev pub NeedsAreNeeded : Type 0
NeedsAreNeeded = (lines : Lines) (registers : List ℕ) (most : ℕ) → ShareNone lines registers → ((k r : ℕ) → IsNamed lines k → register_of registers k ≡ Some r → r < most) → needs lines (length registers) ≤ most

-- Lines have one scan at most.
abbrev pub ScanIsOne : Type 0
ScanIsOne = (lines : Lines) (p q : List ℕ) → length p ≡ length q → IsScan lines p → IsScan lines q → p ≡ q

-- Some registers are a scan of the lines.
abbrev pub ScanExists : Type 0
ScanExists = (lines : Lines) (temps : ℕ) → (registers : List ℕ) × (length registers ≡ temps) × IsScan lines registers
