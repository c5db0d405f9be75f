-- Registers that are taken and given back, line by line. A temporary's index is its number less one.
use Rattle.std.specs.Prelude.{◌≡◌, ℕ, zero, suc, ◌<◌, Bool, false, ◌&&◌, ◌||◌, ◌==◌, Option, Some, None, List, [], ◌∷◌, length, slice_get, slice_set}
use Rattle.std.specs.List.{list_any}
use Rattle.sel_regs.specs.declared.free.Free.{Free}
use Rattle.sel_regs.specs.declared.lives.Life.{Life}
use Rattle.sel_regs.specs.Lives.{Lines, needs}
use Rattle.sel_regs.specs.Scans.{IsScan}
use Rattle.sel_regs.specs.Freeing.{is_free, IsNextTaken}

-- each of these temporaries, one after the other, takes the lowest register that is free
abbrev pub AreTaken : List ℕ → List ℕ → Free → List ℕ → Free → Type 0
AreTaken [] registers free registers' free' = (registers' ≡ registers) × (free' ≡ free)
AreTaken (i ∷ begun) registers free registers' free' = (r : ℕ) × (between : Free) × (IsNextTaken free between r × AreTaken begun (slice_set registers i r) between registers' free')

-- the life has so many lines to its end
abbrev pub has_end : ℕ → Option Life → Bool
has_end end None = false
has_end end (Some life) = life.end == end

-- the register is this one
abbrev pub is_register : ℕ → Option ℕ → Bool
is_register q None = false
is_register q (Some r) = r == q

-- the temporary ends there, and has the register
abbrev pub gives_back : List Life → List ℕ → ℕ → ℕ → ℕ → Bool
gives_back lives registers end q zero = false
gives_back lives registers end q (suc i) = has_end end (slice_get lives i) && is_register q (slice_get registers i)

-- the registers of the line's temporaries that end there are free, and the others are as they were
pub record AreReleased (line : List ℕ) (lives : List Life) (registers : List ℕ) (end : ℕ) (free free' : Free) : Type 0 where
  pub after : (q : ℕ) → is_free free' q ≡ (is_free free q || list_any (gives_back lives registers end q) line)
  pub fresh : free'.fresh ≡ free.fresh

-- the registers of the temporaries that end there were taken
abbrev pub EndTaken : List Life → List ℕ → ℕ → Free → Type 0
EndTaken lives registers end free = (i r : ℕ) (life : Life) → slice_get lives i ≡ Some life → life.end ≡ end → slice_get registers i ≡ Some r → r < free.fresh

-- a scan of the lines for the temporaries from 1 to `temps`, and how many are live at once
pub record IsScanned (lines : Lines) (temps : ℕ) (registers : List ℕ) (most : ℕ) : Type 0 where
  pub scan : IsScan lines registers
  pub long : length registers ≡ temps
  pub exact : most ≡ needs lines temps
