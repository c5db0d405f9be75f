-- What a snapshot says, in its own terms.
use Rattle.std.specs.Prelude.{◌≡◌, ℕ, zero, suc, ◌+◌, ◌<◌, ◌≤◌, true, List, [], ◌∷◌, length}
use Rattle.sel_items.specs.declared.items.Items.{Items}
use Rattle.sel_items.specs.Follows.{NodeKey, Follows, key_of}
use Rattle.sel_items.specs.Words.{FitsWords}
use Rattle.sel_law.specs.declared.Setting.{Setting}
use Rattle.sel_law.specs.Words.{In, class_by}
use Rattle.sel_rows.specs.declared.part.PassPart.{PassPart}
use Rattle.sel_rows.specs.declared.snapshot.State.{State}
use Rattle.sel_rows.specs.declared.snapshot.Key.{Key}
use Rattle.sel_rows.specs.declared.snapshot.Transition.{Transition}
use Rattle.sel_rows.specs.declared.snapshot.Snapshot.{Snapshot}
use Rattle.sel_rows.specs.Meanings.{IsAsked, IsHeld, IsKnownAs}
use Rattle.sel_rows.specs.Parts.{part_used_up, part_row_full}
use Rattle.sel_rows.specs.Snapshots.{states_of, transitions_of, IsAscending}
use Rattle.sel_rows.specs.Tables.{view_of}

-- the number n is a state's, with this item set
abbrev pub HasState : Snapshot → ℕ → Items → Type 0
HasState s n i = In (record { number = n; items = i }) (states_of s)

-- the item sets of so many kids, by their numbers
abbrev pub AreKidStates : Snapshot → ℕ → ℕ → ℕ → List Items → Type 0
AreKidStates s zero l r is = is ≡ []
AreKidStates s (suc zero) l r is = (i : Items) × HasState s l i × (is ≡ i ∷ [])
AreKidStates s (suc (suc k)) l r is = (i j : Items) × HasState s l i × HasState s r j × (is ≡ i ∷ j ∷ [])

-- the key by the item sets of its kids' states
abbrev pub IsNodeOf : Snapshot → Key → NodeKey → Type 0
IsNodeOf s k node = (is : List Items) × AreKidStates s k.kids k.left k.right is × (node ≡ key_of k.operator (class_by k.kids k.left) is)

-- the key was asked in one of the parts
abbrev pub IsAskedOf : List PassPart → NodeKey → Type 0
IsAskedOf parts k = (p : PassPart) × In p parts × IsAsked (view_of p) k

-- States stand by their numbers, each once, and their item sets differ, fit words and follow from keys that were asked. Each transition's number is the state that follows from its key, which was asked, over the states of its kids; and no key stands twice. What a part held is a state, and what it knew is a transition with the number. The marks say how much there is.
pub record IsLawfulSnapshot (z : Setting) (parts : List PassPart) (s : Snapshot) : Type 0 where
  pub ascending : IsAscending (states_of s)
  pub states_differ : (a b : State) → In a (states_of s) → In b (states_of s) → a.items ≡ b.items → a ≡ b
  pub states : (a : State) → In a (states_of s) → (a.number < z.states) × FitsWords a.items × ((k : NodeKey) × IsAskedOf parts k × Follows z.normal.value k a.items)
  pub transitions : (t : Transition) → In t (transitions_of s) → (i : Items) × HasState s t.number i × ((k : NodeKey) × IsNodeOf s t.key k × IsAskedOf parts k × Follows z.normal.value k i)
  pub keys_differ : (t u : Transition) → In t (transitions_of s) → In u (transitions_of s) → t.key ≡ u.key → t ≡ u
  pub few : (length (states_of s) ≤ z.states) × (length (transitions_of s) ≤ z.rows)
  pub held : (p : PassPart) (i : Items) → In p parts → IsHeld (view_of p) i → (n : ℕ) × HasState s n i
  pub known : (p : PassPart) (k : NodeKey) (n : ℕ) → In p parts → IsKnownAs (view_of p) k n → (t : Transition) × In t (transitions_of s) × (t.number ≡ n) × IsNodeOf s t.key k
  pub used_up : (p : PassPart) → In p parts → part_used_up p ≡ true → z.states < length (states_of s) + z.workers
  pub row_full : (p : PassPart) → In p parts → part_row_full p ≡ true → 1 ≤ z.rows
      → (length (transitions_of s) ≡ z.rows) × ((k : NodeKey) × IsAskedOf parts k × ((t : Transition) → In t (transitions_of s) → IsNodeOf s t.key k → ⊥))
