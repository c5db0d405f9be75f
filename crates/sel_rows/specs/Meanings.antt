-- What a pass tells of itself, by its view and the item sets of its plain labels.
use Rattle.std.specs.Prelude.{◌≡◌, ℕ, ◌<◌, ◌≤◌, Bool, false, List, length, Option, Some, None, slice_get}
use Rattle.std.proofs.Common.{sym, ap, ◌∙◌}
use Rattle.sel_items.specs.declared.items.Items.{Items}
use Rattle.sel_items.specs.declared.label.Label.{Label}
use Rattle.sel_items.specs.declared.label.Label.TheVariants.{Numbered, Plain}
use Rattle.sel_items.specs.Automata.{Told}
use Rattle.sel_items.specs.Follows.{NodeKey, Follows}
use Rattle.sel_normal.specs.NormalForms.{NormalForm}
use Rattle.sel_items.specs.Words.{FitsWords}
use Rattle.sel_law.specs.declared.Ask.{Ask}
use Rattle.sel_law.specs.declared.View.{View}
use Rattle.sel_law.specs.Words.{In, items_of, node_key, ArePacked, HasPackedKids, IsMadeOf}
use Rattle.sel_law.specs.Kinds.{HeldNumber}
use Rattle.sel_rows.specs.Held.{held_content, IsWhole}

-- The number is held as published, and its content, which says the item set, is held whole.
pub record HoldsItems (v : View) (n : ℕ) (i : Items) : Type 0 where
  pub below : n < v.setting.states
  pub number : HeldNumber v n
  pub whole : IsWhole v n
  pub packed : ArePacked (held_content v n)
  pub items : i ≡ items_of (held_content v n)
  pub fits : FitsWords i

-- what a label means
abbrev pub Means : View → List Items → Label → Items → Type 0
Means v plain (Numbered n) i = HoldsItems v n i
Means v plain (Plain p) i = slice_get plain p ≡ Some i

-- the key is one that was asked
abbrev pub IsAsked : View → NodeKey → Type 0
IsAsked v k = (a : Ask) × In a v.asked × (k ≡ node_key a)

-- A transition word of the key by words was read or written, and has the number, which is below the table's; and an item set that fits words follows from the key.
pub record KnowsKey (v : View) (a : Ask) (n : ℕ) : Type 0 where
  pub known : In (a, n) v.known
  pub some_rows : 1 ≤ v.setting.rows
  pub packed : HasPackedKids a
  pub below : n < v.setting.states
  pub made : (c : List ℕ) × IsMadeOf v.setting a c

-- the key's number is known
abbrev pub IsKnownAs : View → NodeKey → ℕ → Type 0
IsKnownAs v k n = (a : Ask) × KnowsKey v a n × (k ≡ node_key a)

-- the key is one whose number is known
abbrev pub IsKnown : View → NodeKey → Type 0
IsKnown v k = (n : ℕ) × IsKnownAs v k n

-- the item set is a state's that is held, and follows from a key that was asked
abbrev pub IsHeld : View → Items → Type 0
IsHeld v i = ((n : ℕ) × HoldsItems v n i) × ((k : NodeKey) × IsAsked v k × Follows v.setting.normal.value k i)

-- What a pass tells as an automaton. The lists are those of its view. A key is ready where it is known and the pass isn't marked row full.
abbrev pub told_by : NormalForm → View → List Items → Bool → Bool → Told
told_by normal v plain used_up row_full = record {
  normal = normal;
  means = Means v plain;
  plain_labels = length plain;
  asked = IsAsked v;
  known = IsKnown v;
  ready = λ k. IsKnown v k × (row_full ≡ false);
  held = IsHeld v;
  used_up = used_up;
  row_full = row_full;
}

or_other : Items → Option Items → Items
or_other i None = i
or_other i (Some j) = j

-- a label means one item set
pub one_meaning : (v : View) (plain : List Items) (l : Label) (i j : Items) → Means v plain l i → Means v plain l j → i ≡ j
unfolding or_other
one_meaning v plain (Numbered n) i j h k = h.items ∙ sym k.items
one_meaning v plain (Plain p) i j h k = ap (or_other i) (sym h ∙ k)
