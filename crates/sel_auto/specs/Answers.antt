-- How a call that labels a node changes the tables of a private automaton: as the inner functions say it.
use Rattle.std.specs.Prelude.{◌≡◌, ℕ, ◌<◌, ◌⊎◌, Option, Some, None, length, slice_get}
use Rattle.sel_items.specs.declared.items.Items.{Items}
use Rattle.sel_items.specs.declared.label.Label.{Label}
use Rattle.sel_items.specs.declared.label.Label.TheVariants.{Numbered, Plain}
use Rattle.sel_auto.specs.declared.key.StateKey.{StateKey}
use Rattle.sel_auto.specs.Sets.{IsAmong}
use Rattle.sel_auto.specs.Keys.{numbered_key}
use Rattle.sel_auto.specs.Tables.{Tables, IsKept, with_evaluation, with_plain, with_state, with_key, with_used_up}
use Rattle.sel_auto.specs.TableChanges.{FollowsKids}

-- the item set is a state's
pub record IsFound (t new : Tables) (key : StateKey) (i : Items) (l : Label) : Type 0 where
  pub number : ℕ
  pub stands : slice_get t.states number ≡ Some i
  pub label : l ≡ Numbered number
  pub tables : new ≡ with_key t key number

-- it is none's, and becomes that of the next number
pub record IsAdded (t new : Tables) (key : StateKey) (i : Items) (l : Label) : Type 0 where
  pub fresh : IsAmong t.states i → ⊥
  pub room : length t.states < t.most_states
  pub label : l ≡ Numbered (length t.states)
  pub tables : new ≡ with_key (with_state t i) key (length t.states)

-- it is none's, and there is no number left
pub record IsUnnumbered (t new : Tables) (i : Items) (l : Label) : Type 0 where
  pub fresh : IsAmong t.states i → ⊥
  pub full : length t.states ≡ t.most_states
  pub label : l ≡ Plain (length t.plain)
  pub tables : new ≡ with_used_up (with_plain t i)

-- the key's number is kept
pub record IsHit (t new : Tables) (key : StateKey) (l : Label) : Type 0 where
  pub number : ℕ
  pub kept : IsKept t key number
  pub label : l ≡ Numbered number
  pub same : new ≡ t

-- it isn't, and an item set is evaluated
pub record IsMissed (t new : Tables) (key : StateKey) (operator class : ℕ) (a b : Option Label) (l : Label) : Type 0 where
  pub missing : (n : ℕ) → IsKept t key n → ⊥
  pub items : Items
  pub follows : FollowsKids t operator class a b items
  pub answer : IsFound (with_evaluation t) new key items l ⊎ (IsAdded (with_evaluation t) new key items l ⊎ IsUnnumbered (with_evaluation t) new items l)

-- a kid's label is plain
pub record IsOverPlain (t new : Tables) (operator class : ℕ) (a b : Option Label) (l : Label) : Type 0 where
  pub items : Items
  pub follows : FollowsKids t operator class a b items
  pub label : l ≡ Plain (length t.plain)
  pub tables : new ≡ with_plain (with_evaluation t) items

abbrev pub IsAnswerBy : Option StateKey → Tables → Tables → ℕ → ℕ → ℕ → ℕ → Option Label → Option Label → Label → Type 0
IsAnswerBy None t new before after operator class a b l = IsOverPlain t new operator class a b l × (before < after)
IsAnswerBy (Some key) t new before after operator class a b l = (IsHit t new key l × (after ≡ before)) ⊎ (IsMissed t new key operator class a b l × (before < after))

-- The call gives the label l and leaves the tables `new`, with a step counter that went from `before` to `after`.
abbrev pub IsAnswer : Tables → Tables → ℕ → ℕ → ℕ → ℕ → Option Label → Option Label → Label → Type 0
IsAnswer t new before after operator class a b l = IsAnswerBy (numbered_key operator class a b) t new before after operator class a b l
