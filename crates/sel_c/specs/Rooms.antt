-- What a call does that says how much may be learned.
use Rattle.std.specs.Prelude.{◌≡◌, ℕ, ◌<◌, ◌≤◌, ◌⊎◌, Bool, true, false, Option, Some, None}
use Rattle.sel_auto.specs.Tables.{most_numbers, most_rows}
use Rattle.sel_c.specs.declared.accepted.Accepted.{Accepted}

-- the same selector, with room for so many states and transitions, that has learned nothing
pub record IsEmptied (states rows : ℕ) (old new : Accepted) : Type 0 where
  pub grammar_is : new.grammar ≡ old.grammar
  pub normal_is : new.normal ≡ old.normal
  pub states_are : new.states ≡ states
  pub rows_are : new.rows ≡ rows
  pub none_kept : new.parked ≡ None

-- so a call leaves what the handle holds where it answers `true`
abbrev pub IsEmptiedHeld : ℕ → ℕ → Option Accepted → Option Accepted → Type 0
IsEmptiedHeld states rows (Some old) (Some new) = IsEmptied states rows old new
IsEmptiedHeld states rows _ _ = ⊥

-- It does so where the handle holds a selector and there may be so much room, and else answers `false` and changes nothing.
abbrev pub MakesRoom : ℕ → ℕ → Option Accepted → Option Accepted → Bool → Type 0
MakesRoom states rows old new true = (states ≤ most_numbers) × (rows ≤ most_rows) × IsEmptiedHeld states rows old new
MakesRoom states rows old new false = (new ≡ old) × ((old ≡ None) ⊎ ((most_numbers < states) ⊎ (most_rows < rows)))
