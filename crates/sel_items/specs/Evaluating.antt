-- The entries that operator rules alone give.
use Rattle.std.specs.Prelude.{◌≡◌, ℕ, ◌<◌, ◌+◌, Option, Some, [], length, slice_get}
use Rattle.sel_grammar.specs.Costs.{Cost}
use Rattle.sel_normal.specs.declared.normal.NormalRule.{NormalRule}
use Rattle.sel_normal.specs.NormalForms.{NormalForm}
use Rattle.sel_items.specs.declared.items.Item.{Item}
use Rattle.sel_items.specs.declared.items.Items.{Items}
use Rattle.sel_items.specs.Entries.{ItemRow, item_at}
use Rattle.sel_items.specs.CostBounds.{AreBelow, IsBelow}
use Rattle.sel_items.specs.Follows.{NodeKey, IsCandidate}
use Rattle.sel_items.specs.Offers.{Stands, operator_offer}

-- the cost, where there is one, is below 2^b
abbrev pub IsBelowIn : ℕ → Option Cost → Type 0
IsBelowIn b o = (c : Cost) → o ≡ Some c → IsBelow b c

-- each cost of the kid's item set, where there is a kid, is below 2^46
abbrev pub IsSmallKid : Option Items → Type 0
IsSmallKid o = (i : Items) → o ≡ Some i → AreBelow 46 i.entries

-- the row has the least candidates among the first k rules, each an operator rule alone
pub record IsStartTo (normal : NormalForm) (key : NodeKey) (k : ℕ) (row : ItemRow) : Type 0 where
  pub long : length row ≡ normal.nonterminals
  pub low : AreBelow 48 row
  pub backed : (n : ℕ) (item : Item) → item_at row n ≡ Some item → IsCandidate normal key n [] item.rule item.cost
  pub stands : (j : ℕ) (rule : NormalRule) → j < k → slice_get normal.rules j ≡ Some rule → Stands (item_at row rule.left) (operator_offer normal key rule (j + 1))

-- among all rules
abbrev pub IsStart : NormalForm → NodeKey → ItemRow → Type 0
IsStart normal key row = IsStartTo normal key (length normal.rules) row
