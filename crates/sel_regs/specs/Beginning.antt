-- Which temporaries begin on each line, by their indices from 0.
use Rattle.std.specs.Prelude.{◌≡◌, ℕ, ◌<◌, ◌≤◌, nat_lt, Bool, false, ◌&&◌, ◌==◌, Option, Some, None, List, length, slice_get}
use Rattle.std.specs.List.{filter, range_with_len, sum_by}
use Rattle.sel_regs.specs.declared.lives.Life.{Life}

-- the life has a line, and its first is this one
abbrev pub is_first : ℕ → Option Life → Bool
is_first line None = false
is_first line (Some life) = nat_lt 0 life.end && (life.first == line)

-- the temporary with this index begins on the line
abbrev pub begins_on : List Life → ℕ → ℕ → Bool
begins_on lives line i = is_first line (slice_get lives i)

-- each life that has a line begins on one of so many
abbrev pub BeginWithin : List Life → ℕ → Type 0
BeginWithin lives lines = (i : ℕ) (life : Life) → slice_get lives i ≡ Some life → 0 < life.end → life.first < lines

-- For each line those of the first `count` temporaries that begin on it, in their order. All together they are no more than these.
pub record AreBegun (lives : List Life) (count lines : ℕ) (begun : List (List ℕ)) : Type 0 where
  pub long : length begun ≡ lines
  pub each : (line : ℕ) (here : List ℕ) → slice_get begun line ≡ Some here → here ≡ filter (begins_on lives line) (range_with_len 0 count)
  pub few : sum_by (λ here. length here) begun ≤ count
