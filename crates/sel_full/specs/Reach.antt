-- The item sets that trees reach, and the keys over item sets.
use Rattle.std.specs.Prelude.{◌≡◌, ℕ, ◌⊎◌, Option, Some, None, List, [], ◌∷◌, length, slice_get}
use Rattle.sel_grammar.specs.declared.grammar.Grammar.{Grammar}
use Rattle.sel_grammar.specs.PlainTrees.{PlainTree}
use Rattle.sel_forest.specs.Valid.{IsOver}
use Rattle.sel_range.specs.Classes.{Occurs}
use Rattle.sel_normal.specs.declared.normal.Body.TheVariants.{Operator}
use Rattle.sel_normal.specs.declared.normal.NormalRule.{NormalRule}
use Rattle.sel_normal.specs.NormalForms.{NormalForm, normal_at}
use Rattle.sel_items.specs.declared.items.Items.{Items}
use Rattle.sel_items.specs.Entries.{item_at}
use Rattle.sel_items.specs.Follows.{NodeKey, Follows}
use Rattle.sel_items.specs.ItemsOf.{IsItemsOf}

-- an item set without entries
pub record IsEmptySet (normal : NormalForm) (i : Items) : Type 0 where
  pub long : length i.entries ≡ normal.nonterminals
  pub none : (n : ℕ) → item_at i.entries n ≡ None

-- the empty item set, and that of each tree over the grammar's operators, of whatever size and depth
abbrev pub IsReached : Grammar → NormalForm → Items → Type 0
IsReached g normal i = IsEmptySet normal i ⊎ ((t : PlainTree) × IsOver g t × IsItemsOf g t i)

-- how many kids a rule's operator has
abbrev pub kid_count : Option ℕ → Option ℕ → ℕ
kid_count None b = 0
kid_count (Some a) None = 1
kid_count (Some a) (Some b) = 2

-- some rule uses the operator, with so many kids
pub record IsUsed (normal : NormalForm) (operator kids : ℕ) : Type 0 where
  pub number : ℕ
  pub rule : NormalRule
  pub first : Option ℕ
  pub second : Option ℕ
  pub test : Option ℕ
  pub numbered : normal_at normal number ≡ Some rule
  pub body : rule.body ≡ Operator operator first second test
  pub count : kid_count first second ≡ kids

-- the class is one that some attribute has without kids, and 0 with kids
abbrev pub IsClassFor : NormalForm → ℕ → List Items → Type 0
IsClassFor normal class [] = Occurs normal.tests class
IsClassFor normal class (i ∷ is) = class ≡ 0

-- each is one of these item sets
abbrev pub AreOf : (Items → Type 0) → List Items → Type 0
AreOf P [] = Unit {0}
AreOf P (i ∷ is) = P i × AreOf P is

-- a key over item sets: an operator that some rule uses, with a class or with as many of the item sets as it has kids
pub record IsKeyOver (normal : NormalForm) (P : Items → Type 0) (key : NodeKey) : Type 0 where
  pub used : IsUsed normal key.operator (length key.kids)
  pub class : IsClassFor normal key.class key.kids
  pub kids : AreOf P key.kids

-- the item stands at some place of the list
abbrev pub IsOneOf : {A : Type 0} → List A → A → Type 0
IsOneOf xs x = (k : ℕ) × (slice_get xs k ≡ Some x)

-- from each key over the states follows one of them
abbrev pub IsClosed : NormalForm → List Items → Type 0
IsClosed normal states = (key : NodeKey) → IsKeyOver normal (IsOneOf states) key → (i : Items) × IsOneOf states i × Follows normal key i
