-- How labelling a node changes the tables of a private automaton.
use Rattle.std.specs.Prelude.{◌≡◌, ℕ, ◌<◌, ◌≤◌, ◌⊎◌, ◌↔◌, true, Option, Some, None, List, [], ◌∷◌, ◌++◌, length}
use Rattle.sel_items.specs.declared.items.Items.{Items}
use Rattle.sel_items.specs.declared.label.Label.{Label}
use Rattle.sel_items.specs.declared.label.Label.TheVariants.{Numbered, Plain}
use Rattle.sel_items.specs.Follows.{NodeKey, key_of, Follows}
use Rattle.sel_items.specs.Labels.{IsPlain, IsNumbered, AreNumbered, KidsAre}
use Rattle.sel_auto.specs.declared.key.StateKey.{StateKey}
use Rattle.sel_auto.specs.Sets.{IsAmong}
use Rattle.sel_auto.specs.Keys.{numbered_key}
use Rattle.sel_auto.specs.Tables.{Tables, Means, IsKept, keys_with, one_more, with_evaluation, with_state}

-- the number is kept for the node's key
abbrev pub IsKeptFor : Tables → ℕ → ℕ → Option Label → Option Label → ℕ → Type 0
IsKeptFor t operator class a b n = (key : StateKey) × (numbered_key operator class a b ≡ Some key) × IsKept t key n

-- none is, or the node has no key by numbers
abbrev pub HasNoNumber : Tables → ℕ → ℕ → Option Label → Option Label → Type 0
HasNoNumber t operator class a b = (n : ℕ) → IsKeptFor t operator class a b n → ⊥

-- each number is given, and what follows from the key is the item set of none
abbrev pub IsLeftWithout : Tables → NodeKey → Type 0
IsLeftWithout t k = (length t.states ≡ t.most_states) × ((i : Items) → Follows t.normal k i → IsAmong t.states i → ⊥)

-- numbers are given in order: a numbered label is a state's, or the next
abbrev pub KeepsStates : Tables → Tables → Label → Type 0
KeepsStates t new (Numbered n) = ((n < length t.states) × (new.states ≡ t.states)) ⊎ ((n ≡ length t.states) × ((i : Items) × (new.states ≡ t.states ++ i ∷ [])))
KeepsStates t new (Plain p) = new.states ≡ t.states

-- a plain label has the next place
abbrev pub KeepsPlain : Tables → Tables → Label → Type 0
KeepsPlain t new (Numbered n) = new.plain ≡ t.plain
KeepsPlain t new (Plain p) = (p ≡ length t.plain) × ((i : Items) × (new.plain ≡ t.plain ++ i ∷ []))

-- a numbered label is kept for the key, where there is room
abbrev pub KeepsKeys : Tables → Tables → Option StateKey → Label → Type 0
KeepsKeys t new (Some key) (Numbered n) = new.keys ≡ keys_with t key n
KeepsKeys t new None (Numbered n) = ⊥
KeepsKeys t new o (Plain p) = new.keys ≡ t.keys

-- the item set follows from what the kids' labels mean
abbrev pub FollowsKids : Tables → ℕ → ℕ → Option Label → Option Label → Items → Type 0
FollowsKids t operator class a b i = (kids : List Items) → KidsAre (Means t) a b kids → Follows t.normal (key_of operator class kids) i

-- What a label leaves of the tables: states, plain labels and keys are added in order, and the marks are set where there was no number or no room.
pub record IsChanged (t new : Tables) (operator class : ℕ) (a b : Option Label) (l : Label) : Type 0 where
  -- it is plain exactly where a kid's is, or where each number is given and the item set is that of none
  pub plain_where : (kids : List Items) → KidsAre (Means t) a b kids → IsPlain l ↔ ((AreNumbered a b → ⊥) ⊎ IsLeftWithout t (key_of operator class kids))
  pub states : KeepsStates t new l
  pub plain : KeepsPlain t new l
  pub keys : HasNoNumber t operator class a b → KeepsKeys t new (numbered_key operator class a b) l
  pub used_up : (new.used_up ≡ true) ↔ ((t.used_up ≡ true) ⊎ (IsPlain l × AreNumbered a b))
  pub row_full : (new.row_full ≡ true) ↔ ((t.row_full ≡ true) ⊎ (IsNumbered l × HasNoNumber t operator class a b × (length t.keys ≡ t.most_keys)))

-- Memory was refused: an item set was being evaluated for a node without a kept number. But for the count nothing changed, or over numbered kids the item set is that of the next number all the same.
pub record IsRefused (t new : Tables) (operator class : ℕ) (a b : Option Label) : Type 0 where
  pub missing : HasNoNumber t operator class a b
  pub tables : (new ≡ with_evaluation t)
      ⊎ ((i : Items) × FollowsKids t operator class a b i × AreNumbered a b × (IsAmong t.states i → ⊥) × (length t.states < t.most_states) × (new ≡ with_state (with_evaluation t) i))

-- A call for a node without a kept number takes steps and is counted, up to the greatest number.
pub record IsCounted (t new : Tables) (operator class : ℕ) (a b : Option Label) (before after : ℕ) : Type 0 where
  pub evaluated : HasNoNumber t operator class a b → (before < after) × (new.evaluated ≡ one_more t.evaluated)
  pub no_fewer : before ≤ after
