-- The states and transitions that words say.
use Rattle.std.specs.Prelude.{◌≡◌, ℕ, ◌<◌, List, [], ◌∷◌, length, cond, ◌==◌}
use Rattle.sel_law.specs.declared.Setting.{Setting}
use Rattle.sel_law.specs.Words.{In, read, row_at, Published, published, key_of, number_of, operator_of, kids_of, left_of, right_of}
use Rattle.sel_rows.specs.declared.snapshot.State.{State}
use Rattle.sel_rows.specs.declared.snapshot.Key.{Key}
use Rattle.sel_rows.specs.declared.snapshot.Transition.{Transition}
use Rattle.sel_rows.specs.declared.snapshot.Snapshot.{Snapshot}
use Rattle.sel_rows.specs.Closed.{state_items}

-- the states that a snapshot tells
abbrev pub states_of : Snapshot → List State
states_of s = s.states

-- the transitions that it tells
abbrev pub transitions_of : Snapshot → List Transition
transitions_of s = s.transitions

-- each number is below all that come later
abbrev pub IsAscending : List State → Type 0
IsAscending [] = Unit {0}
IsAscending (s ∷ ss) = ((t : State) → In t ss → s.number < t.number) × IsAscending ss

-- The states are the published numbers, each once and in order, with the item sets that their contents say.
pub record AreStatesOf (z : Setting) (ws : List ℕ) (states : List State) : Type 0 where
  pub ascending : IsAscending states
  pub each : (s : State) → In s states → Published z ws s.number × (s.items ≡ state_items z ws s.number)
  pub all : (n : ℕ) → Published z ws n → (s : State) × In s states × (s.number ≡ n)
  pub count : length states ≡ published z ws

-- the key of a key's number
abbrev pub key_by : ℕ → Key
key_by x = record { operator = operator_of x; kids = kids_of x; left = left_of x; right = right_of x }

-- the transition that a word says
abbrev pub transition_by : ℕ → Transition
transition_by w = record { key = key_by (key_of w); number = number_of w }

-- those of the words in use, in their order
abbrev pub transitions_in : List ℕ → List Transition
transitions_in [] = []
transitions_in (w ∷ ws) = cond (w == 0) (transitions_in ws) (transition_by w ∷ transitions_in ws)

-- the snapshot is exactly what the words say
pub record IsSnapshotOf (z : Setting) (ws : List ℕ) (s : Snapshot) : Type 0 where
  pub states : AreStatesOf z ws (states_of s)
  pub transitions : transitions_of s ≡ transitions_in (read ws (row_at z 0) z.rows)
