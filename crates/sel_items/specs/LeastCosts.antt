-- The least cost of the entries of an item set.
use Rattle.std.specs.Prelude.{◌≡◌, ℕ, ◌⊎◌, Option, Some, None}
use Rattle.sel_grammar.specs.Costs.{Cost, IsCheaper}
use Rattle.sel_items.specs.declared.items.Item.{Item}
use Rattle.sel_items.specs.Entries.{ItemRow, item_at}

-- the least cost of the entries, where there is one
abbrev pub LeastCost : ItemRow → Option Cost → Type 0
LeastCost row None = (n : ℕ) → item_at row n ≡ None
LeastCost row (Some c) = ((n : ℕ) × (item : Item) × (item_at row n ≡ Some item) × (item.cost ≡ c)) × ((n : ℕ) (item : Item) → item_at row n ≡ Some item → IsCheaper item.cost c → ⊥)

-- the lesser of the cost and the entry's, where they are there
abbrev pub WithEntry : Option Cost → Option Item → Option Cost → Type 0
WithEntry o None r = r ≡ o
WithEntry o (Some item) None = ⊥
WithEntry None (Some item) (Some r) = r ≡ item.cost
WithEntry (Some a) (Some item) (Some r) = ((r ≡ item.cost) × IsCheaper item.cost a) ⊎ ((r ≡ a) × (IsCheaper item.cost a → ⊥))
