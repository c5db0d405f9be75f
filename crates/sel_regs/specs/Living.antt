-- The lives of temporaries as they are noted, line by line.
use Rattle.std.specs.Prelude.{◌≡◌, ℕ, suc, ◌+◌, ◌<◌, Bool, ◌==◌, if◌then◌else◌, Some, List, length, slice_get}
use Rattle.sel_regs.specs.declared.lives.Life.{Life}
use Rattle.sel_regs.specs.Lives.{Lines, is_on, first_line, lines_to_last}

-- the life of a temporary that the line at `at` names, too, the last of those so far
abbrev pub with_line_at : ℕ → Life → Life
with_line_at at life = record { first = if life.end == 0 then at else life.first; end = at + 1 }

-- the life where the line names the temporary or doesn't
abbrev pub noted : Bool → ℕ → Life → Life
noted here at life = if here then with_line_at at life else life

-- the lives of the temporaries that the line names have it, and the others stay
pub record IsNoted (line : List ℕ) (at : ℕ) (lives lives' : List Life) : Type 0 where
  pub long : length lives' ≡ length lives
  pub each : (i : ℕ) (life : Life) → slice_get lives i ≡ Some life → slice_get lives' i ≡ Some (noted (is_on (suc i) line) at life)

-- The life of temporary k. The first line is told where some line names it.
pub record IsLife (lines : Lines) (k : ℕ) (life : Life) : Type 0 where
  pub ends : life.end ≡ lines_to_last lines k
  pub begins : 0 < life.end → life.first ≡ first_line lines k

-- the lives of the temporaries from 1 to `temps`
pub record AreLives (lines : Lines) (temps : ℕ) (lives : List Life) : Type 0 where
  pub long : length lives ≡ temps
  pub each : (i : ℕ) (life : Life) → slice_get lives i ≡ Some life → IsLife lines (suc i) life
