-- The item set that follows from a node's operator, its class and its kids' item sets, by candidates (after Proebsting's states with relative costs).
use Rattle.std.specs.Prelude.{◌≡◌, ℕ, ◌<◌, ◌==◌, ◌&&◌, if◌then◌else◌, Bool, true, Option, Some, None, List, [], ◌∷◌, length}
use Rattle.std.specs.Option.{option_map}
use Rattle.sel_base.specs.declared.range.Range.{Range}
use Rattle.sel_grammar.specs.Costs.{Cost, no_cost, ◌⊕◌, paid}
use Rattle.sel_range.specs.Classes.{holds}
use Rattle.sel_normal.specs.declared.normal.Body.{Body}
use Rattle.sel_normal.specs.declared.normal.Body.TheVariants.{Chain, Operator}
use Rattle.sel_normal.specs.declared.normal.NormalRule.{NormalRule}
use Rattle.sel_normal.specs.NormalForms.{NormalForm, normal_at}
use Rattle.sel_normal.specs.Seen.{range_at}
use Rattle.sel_items.specs.declared.items.Item.{Item}
use Rattle.sel_items.specs.declared.items.Items.{Items}
use Rattle.sel_items.specs.Entries.{ItemRow, item_at, NoLater, IsReduced}

-- What an item set follows from: an operator, and the class of the attribute without kids, or the kids' item sets. The class is 0 with kids.
pub record NodeKey : Type 0 where
  pub operator : ℕ
  pub class : ℕ
  pub kids : List Items

abbrev pub key_of : ℕ → ℕ → List Items → NodeKey
key_of operator class kids = record { operator = operator; class = class; kids = kids }

-- whether the range, where there is one, holds of the class
abbrev pub range_holds : List Range → ℕ → Option Range → Bool
range_holds tests class None = true
range_holds tests class (Some range) = holds tests class range

-- whether the test of this number, where there is one, holds of the class
abbrev pub test_holds : List Range → ℕ → Option ℕ → Bool
test_holds tests class test = range_holds tests class (range_at tests test)

-- what an entry costs, where there is one
abbrev pub item_cost : Option Item → Option Cost
item_cost item = option_map (λ i. i.cost) item

-- the sum of two costs, where there are both
abbrev pub sum_of_both : Option Cost → Option Cost → Option Cost
sum_of_both (Some a) (Some b) = Some (a ⊕ b)
sum_of_both _ _ = None

-- what the kids of an operator rule cost by their item sets, where there are as many and each has an entry
abbrev pub cost_of_kids : Option ℕ → Option ℕ → List Items → Option Cost
cost_of_kids None b [] = Some no_cost
cost_of_kids (Some a) None (i ∷ []) = item_cost (item_at i.entries a)
cost_of_kids (Some a) (Some b) (i ∷ j ∷ []) = sum_of_both (item_cost (item_at i.entries a)) (item_cost (item_at j.entries b))
cost_of_kids _ _ _ = None

-- what the kids of a rule cost for the key, where it is a rule for the key's operator and its test holds of the class
abbrev pub operator_cost : NormalForm → NodeKey → Body → Option Cost
operator_cost normal key (Chain m) = None
operator_cost normal key (Operator op a b test) = if (op == key.operator) && test_holds normal.tests key.class test then cost_of_kids a b key.kids else None

-- A candidate of n with the cost c: the chain rules `chains`, the first from n and each from where the one before leads to, and then the operator rule r.
abbrev pub IsCandidate : NormalForm → NodeKey → ℕ → List ℕ → ℕ → Cost → Type 0
IsCandidate normal key n [] r c =
    (rule : NormalRule) × (normal_at normal r ≡ Some rule) × (rule.left ≡ n) × ((k : Cost) × (operator_cost normal key rule.body ≡ Some k) × (c ≡ paid rule.cost ⊕ k))
IsCandidate normal key n (q ∷ qs) r c =
    (rule : NormalRule) × (normal_at normal q ≡ Some rule) × (rule.left ≡ n)
    × ((m : ℕ) × (rule.body ≡ Chain m) × ((k : Cost) × IsCandidate normal key m qs r k × (c ≡ paid rule.cost ⊕ k)))

-- the first rule of a candidate
abbrev pub first_rule : List ℕ → ℕ → ℕ
first_rule [] r = r
first_rule (q ∷ qs) r = q

-- the cost and the first rule of a candidate, no later than those of any other
pub record IsLeast (normal : NormalForm) (key : NodeKey) (n : ℕ) (item : Item) : Type 0 where
  pub chains : List ℕ
  pub last : ℕ
  pub candidate : IsCandidate normal key n chains last item.cost
  pub first : item.rule ≡ first_rule chains last
  pub least : (qs : List ℕ) (r : ℕ) (c : Cost) → IsCandidate normal key n qs r c → NoLater item.cost item.rule c (first_rule qs r)

abbrev pub HasNoCandidate : NormalForm → NodeKey → ℕ → Type 0
HasNoCandidate normal key n = (qs : List ℕ) (r : ℕ) (c : Cost) → IsCandidate normal key n qs r c → ⊥

-- the least candidate, or nothing where there is none
abbrev pub IsEntryOf : NormalForm → NodeKey → ℕ → Option Item → Type 0
IsEntryOf normal key n None = HasNoCandidate normal key n
IsEntryOf normal key n (Some item) = IsLeast normal key n item

-- the entries before the least cost is taken away
pub record IsAbsolute (normal : NormalForm) (key : NodeKey) (row : ItemRow) : Type 0 where
  pub long : length row ≡ normal.nonterminals
  pub each : (n : ℕ) → n < normal.nonterminals → IsEntryOf normal key n (item_at row n)

-- The item set that follows from the key: of each normal nonterminal the least candidate, and then the least cost of all taken away from each.
pub record Follows (normal : NormalForm) (key : NodeKey) (items : Items) : Type 0 where
  pub absolute : ItemRow
  pub least : Cost
  pub is_absolute : IsAbsolute normal key absolute
  pub reduced : IsReduced least absolute items.entries
