-- How a pass over the chain rules changes a row, and what it keeps of it.
use Rattle.std.specs.Prelude.{◌≡◌, ℕ, ℤ, pos, negsuc, ◌+◌, ◌-◌, ◌*◌, ◌<◌, ◌^◌, Option, Some, None, List, [], ◌∷◌, length}
use Rattle.std.specs.List.{sum_by}
use Rattle.sel_grammar.specs.declared.grammar.RuleCost.{RuleCost}
use Rattle.sel_grammar.specs.Costs.{Cost, ◌⊕◌, IsCheaper, paid}
use Rattle.sel_normal.specs.declared.normal.Body.TheVariants.{Chain}
use Rattle.sel_normal.specs.declared.normal.NormalRule.{NormalRule}
use Rattle.sel_normal.specs.NormalForms.{NormalForm, normal_at}
use Rattle.sel_items.specs.declared.items.Item.{Item}
use Rattle.sel_items.specs.Entries.{ItemRow, item_at, NoLater}
use Rattle.sel_items.specs.CostBounds.{AreBelow}
use Rattle.sel_items.specs.Follows.{item_cost}
use Rattle.sel_items.specs.Offers.{offer_for, Stands, IsBettered, IsCheap}
use Rattle.sel_items.specs.ChainClosing.{IsChained}

-- the row took the offer of the chain rule with the number r
pub record IsTurned (rule : NormalRule) (r : ℕ) (old new : ItemRow) : Type 0 where
  pub to : ℕ
  pub chain : rule.body ≡ Chain to
  pub cheap : IsCheap rule.cost
  pub bettered : IsBettered rule.left (offer_for rule.cost r (item_cost (item_at old to))) old new

-- the entry of the left side stands against the rule, if it is a chain rule
abbrev pub ChainStands : NormalRule → ℕ → ItemRow → Type 0
ChainStands rule r row = (m : ℕ) → rule.body ≡ Chain m → Stands (item_at row rule.left) (offer_for rule.cost r (item_cost (item_at row m)))

-- the row stands against each chain rule
abbrev pub AllStand : NormalForm → ItemRow → Type 0
AllStand normal row = (r : ℕ) (rule : NormalRule) → normal_at normal r ≡ Some rule → ChainStands rule r row

-- an entry costs no more than c
abbrev pub CostsNoMore : ItemRow → ℕ → Cost → Type 0
CostsNoMore row n c = (e : Item) × (item_at row n ≡ Some e) × (IsCheaper c e.cost → ⊥)

abbrev pub NotIn : ℕ → List ℕ → Type 0
NotIn n [] = Unit {0}
NotIn n (m ∷ ms) = (n ≡ m → ⊥) × NotIn n ms

-- a candidate by its nonterminals, of which none stands twice, and each of which has an entry that costs no more than the rest of the candidate
abbrev pub IsSimple : ItemRow → ItemRow → ℕ → List ℕ → Cost → Type 0
IsSimple given row n [] c = (item : Item) × (item_at given n ≡ Some item) × (c ≡ item.cost) × CostsNoMore row n c
IsSimple given row n (m ∷ ms) c =
    (rule : RuleCost) × IsCheap rule × NotIn n (m ∷ ms) × CostsNoMore row n c × ((k : Cost) × IsSimple given row m ms k × (c ≡ paid rule ⊕ k))

-- each entry of the row is a candidate's of the given ones, and no given entry was lost or made worse
pub record IsKeptFrom (normal : NormalForm) (given row : ItemRow) : Type 0 where
  pub long : length row ≡ length given
  pub starts : (n : ℕ) (item : Item) → item_at given n ≡ Some item → (e : Item) × (item_at row n ≡ Some e) × NoLater e.cost e.rule item.cost item.rule
  pub ways : (n : ℕ) (item : Item) → item_at row n ≡ Some item → (qs : List ℕ) × IsChained normal given n qs item.rule item.cost
  pub simple : (n : ℕ) (item : Item) → item_at row n ≡ Some item → (ms : List ℕ) × IsSimple given row n ms item.cost

-- given entries whose sums with chain rules stay within their types
pub record IsLowStart (given : ItemRow) : Type 0 where
  pub low : AreBelow 48 given
  pub short : length given < 2 ^ 16

abbrev pub KeepsRow : NormalForm → ItemRow → ItemRow → Type 0
KeepsRow normal old new = (given : ItemRow) → IsLowStart given → IsKeptFrom normal given old → IsKeptFrom normal given new

-- the row was made from some given one
abbrev pub HasStart : NormalForm → ItemRow → Type 0
HasStart normal row = (given : ItemRow) × IsLowStart given × IsKeptFrom normal given row

-- A number for the second part of a cost, for the whole entry and for the row: what is better has a lower one.
abbrev pub offset : ℤ → ℕ
offset (pos n) = 2 ^ 62 + n
offset (negsuc n) = 2 ^ 62 - (n + 1)

abbrev pub distance : Option Item → ℕ
distance None = 2 ^ 145
distance (Some item) = ((item.cost).first * 2 ^ 64 + offset (item.cost).second) * 2 ^ 16 + item.rule

abbrev pub total_distance : ItemRow → ℕ
total_distance row = sum_by distance row
