-- What an automaton over a complete table tells.
use Rattle.std.specs.Prelude.{◌≡◌, ℕ, ◌≤◌, false, Option, Some, List, length, slice_get}
use Rattle.sel_normal.specs.declared.normal.Body.TheVariants.{Operator}
use Rattle.sel_normal.specs.declared.normal.NormalRule.{NormalRule}
use Rattle.sel_normal.specs.NormalForms.{NormalForm, normal_at}
use Rattle.sel_items.specs.declared.items.Items.{Items}
use Rattle.sel_items.specs.declared.label.Label.{Label}
use Rattle.sel_items.specs.declared.label.Label.TheVariants.{Numbered, Plain}
use Rattle.sel_items.specs.Automata.{Told}
use Rattle.sel_items.specs.Follows.{NodeKey, Follows}
use Rattle.sel_full.specs.Reach.{IsOneOf, IsClassFor, AreOf, kid_count}
use Rattle.sel_full.specs.Starts.{AreStarts}
use Rattle.sel_full.specs.Tables.{IsLawfulTable}

-- the normal form, the states, and the number of each key
pub record FullTable : Type 0 where
  pub normal : NormalForm
  pub states : List Items
  pub numbers : List ℕ

-- a number means the item set of its state, and a plain label nothing
abbrev pub Means : FullTable → Label → Items → Type 0
Means t (Numbered n) i = slice_get t.states n ≡ Some i
Means t (Plain p) i = ⊥

-- the table is lawful, and it is known where the keys of each operator begin
pub record IsHeldTable (normal : NormalForm) (states : List Items) (numbers : List ℕ) (starts : List (Option ℕ)) : Type 0 where
  pub lawful : IsLawfulTable normal states numbers
  pub begin : AreStarts normal states starts

-- the number is that of the state that follows from the key
abbrev pub IsNumberOf : FullTable → NodeKey → ℕ → Type 0
IsNumberOf t key n = (i : Items) × (slice_get t.states n ≡ Some i) × Follows t.normal key i

-- each rule for the operator has so many kids
abbrev pub TakesAll : NormalForm → ℕ → ℕ → Type 0
TakesAll normal operator kids = (r : ℕ) (rule : NormalRule) (x y test : Option ℕ) → normal_at normal r ≡ Some rule → rule.body ≡ Operator operator x y test → kid_count x y ≡ kids

-- a key over the states: a class that some attribute has, or one or two states, and an operator that has as many kids in each rule
pub record IsStateKey (t : FullTable) (key : NodeKey) : Type 0 where
  pub few : length key.kids ≤ 2
  pub kids : AreOf (IsOneOf t.states) key.kids
  pub class : IsClassFor t.normal key.class key.kids
  pub operator : TakesAll t.normal key.operator (length key.kids)

-- What an automaton over the table tells: no key is ever asked for, each key over the states is known and ready, the states are held, and there is no mark.
abbrev pub told_of : FullTable → Told
told_of t = record {
  normal = t.normal;
  means = Means t;
  plain_labels = 0;
  asked = λ key. ⊥;
  known = IsStateKey t;
  ready = IsStateKey t;
  held = IsOneOf t.states;
  used_up = false;
  row_full = false;
}

-- a label means one item set
abbrev pub OneMeaning : Type 0
OneMeaning = (t : FullTable) (l : Label) (i j : Items) → Means t l i → Means t l j → i ≡ j

pub one_meaning : OneMeaning
one_meaning t (Numbered n) i j h k = cc
one_meaning t (Plain p) i j h k = absurd h
