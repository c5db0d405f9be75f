-- Intern words by their numbers, and the states of them.
use Rattle.std.specs.Prelude.{◌≡◌, ◌≢◌, ℕ, ◌+◌, ◌<◌, List, [], ◌∷◌, length, slice_index, cond, ◌==◌}
use Rattle.sel_law.specs.Words.{weigh, used, read, intern_at, items_of}
use Rattle.sel_rows.specs.declared.snapshot.State.{State}

-- Of the first k intern words each that is in use stands at the place of its number, and no other does.
pub record AreByNumber (ws : List ℕ) (states k : ℕ) (found : List ℕ) : Type 0 where
  pub long : length found ≡ states
  pub only : (n : ℕ) → n < states → slice_index found n ≢ 0 → (p : ℕ) × (p < k) × (slice_index ws (intern_at p) ≡ n + 1)
  pub each : (p n : ℕ) → p < k → slice_index ws (intern_at p) ≡ n + 1 → slice_index found n ≢ 0
  pub count : weigh used found ≡ weigh used (read ws 1 k)

-- the state of the number with this content
abbrev pub state_by : (ℕ → List ℕ) → ℕ → State
state_by content n = record { number = n; items = items_of (content n) }

-- those of the numbers from n on whose places are in use
abbrev pub states_in : (ℕ → List ℕ) → ℕ → List ℕ → List State
states_in content n [] = []
states_in content n (w ∷ ws) = cond (w == 0) (states_in content (n + 1) ws) (state_by content n ∷ states_in content (n + 1) ws)
