-- Costs whose numbers are bounded.
use Rattle.std.specs.Prelude.{◌≡◌, ℕ, pos, neg_ℤ, ◌<ℤ◌, ◌<◌, ◌^◌, Some, length}
use Rattle.sel_grammar.specs.Costs.{Cost}
use Rattle.sel_normal.specs.NormalForms.{NormalForm}
use Rattle.sel_items.specs.declared.items.Item.{Item}
use Rattle.sel_items.specs.declared.items.Items.{Items}
use Rattle.sel_items.specs.Entries.{ItemRow, item_at}

-- each number of the cost is below 2^b in amount
pub record IsBelow (b : ℕ) (c : Cost) : Type 0 where
  pub first : c.first < 2 ^ b
  pub low : neg_ℤ (pos (2 ^ b)) <ℤ c.second
  pub high : c.second <ℤ pos (2 ^ b)

-- so is each cost in the row
abbrev pub AreBelow : ℕ → ItemRow → Type 0
AreBelow b row = (n : ℕ) (item : Item) → item_at row n ≡ Some item → IsBelow b item.cost

-- an item set of a kid: an entry for each normal nonterminal, each cost below 2^46
pub record IsKidSet (normal : NormalForm) (i : Items) : Type 0 where
  pub long : length i.entries ≡ normal.nonterminals
  pub small : AreBelow 46 i.entries
