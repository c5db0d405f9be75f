-- The closing of entries under the chain rules, by candidates: any list of chain rules, ended by a given entry.
use Rattle.std.specs.Prelude.{◌≡◌, ℕ, Option, Some, None, List, [], ◌∷◌, length}
use Rattle.sel_grammar.specs.Costs.{Cost, ◌⊕◌, paid}
use Rattle.sel_normal.specs.declared.normal.Body.TheVariants.{Chain}
use Rattle.sel_normal.specs.declared.normal.NormalRule.{NormalRule}
use Rattle.sel_normal.specs.NormalForms.{NormalForm, normal_at}
use Rattle.sel_items.specs.declared.items.Item.{Item}
use Rattle.sel_items.specs.Entries.{ItemRow, item_at, NoLater}

-- A candidate of n with the first rule r and the cost c: the chain rules `chains`, the first from n and each from where the one before leads to, and then the given entry of where the last leads to. Without chain rules it is the given entry of n.
abbrev pub IsChained : NormalForm → ItemRow → ℕ → List ℕ → ℕ → Cost → Type 0
IsChained normal given n [] r c = (item : Item) × (item_at given n ≡ Some item) × (r ≡ item.rule) × (c ≡ item.cost)
IsChained normal given n (q ∷ qs) r c =
    (rule : NormalRule) × (normal_at normal q ≡ Some rule) × (rule.left ≡ n) × (r ≡ q) × ((m s : ℕ) × (rule.body ≡ Chain m) × ((k : Cost) × IsChained normal given m qs s k × (c ≡ paid rule.cost ⊕ k)))

-- the cost and the first rule of a candidate, no later than those of any other
pub record IsLeastChained (normal : NormalForm) (given : ItemRow) (n : ℕ) (item : Item) : Type 0 where
  pub chains : List ℕ
  pub candidate : IsChained normal given n chains item.rule item.cost
  pub least : (qs : List ℕ) (r : ℕ) (c : Cost) → IsChained normal given n qs r c → NoLater item.cost item.rule c r

-- the least candidate, or nothing where there is none
abbrev pub IsChainedEntry : NormalForm → ItemRow → ℕ → Option Item → Type 0
IsChainedEntry normal given n None = (qs : List ℕ) (r : ℕ) (c : Cost) → IsChained normal given n qs r c → ⊥
IsChainedEntry normal given n (Some item) = IsLeastChained normal given n item

-- The row is the given one closed under the chain rules.
pub record IsClosedFrom (normal : NormalForm) (given row : ItemRow) : Type 0 where
  pub long : length row ≡ length given
  pub each : (n : ℕ) → IsChainedEntry normal given n (item_at row n)
