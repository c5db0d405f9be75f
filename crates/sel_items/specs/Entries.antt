-- The entries of item sets, and the taking away of the least cost.
use Rattle.std.specs.Prelude.{◌≡◌, ℕ, ◌≤◌, ◌⊎◌, Option, Some, None, List, length, slice_get}
use Rattle.std.specs.Option.{option_flatten}
use Rattle.sel_grammar.specs.Costs.{Cost, no_cost, ◌⊕◌, IsCheaper}
use Rattle.sel_items.specs.declared.items.Item.{Item}

-- an entry for each normal nonterminal
abbrev pub ItemRow : Type 0
ItemRow = List (Option Item)

-- the entry of a nonterminal, where there is one
abbrev pub item_at : ItemRow → ℕ → Option Item
item_at row n = option_flatten (slice_get row n)

-- a cost and a first rule, no later than others: costs decide, and then rules
abbrev pub NoLater : Cost → ℕ → Cost → ℕ → Type 0
NoLater a r b s = IsCheaper a b ⊎ ((a ≡ b) × (r ≤ s))

-- an entry with a cost added
abbrev pub raised : Cost → Option Item → Option Item
raised k None = None
raised k (Some item) = Some (record { cost = k ⊕ item.cost; rule = item.rule })

-- The relative row is the absolute one less `least` in each entry, which is the least cost of the entries, or nothing where there is no entry.
pub record IsReduced (least : Cost) (absolute relative : ItemRow) : Type 0 where
  pub long : length absolute ≡ length relative
  pub raised_is : (n : ℕ) → item_at absolute n ≡ raised least (item_at relative n)
  pub lowest : (n : ℕ) (item : Item) → item_at relative n ≡ Some item → IsCheaper item.cost no_cost → ⊥
  pub reached : ((n : ℕ) × (item : Item) × (item_at relative n ≡ Some item) × (item.cost ≡ no_cost))
      ⊎ (((n : ℕ) → item_at relative n ≡ None) × (least ≡ no_cost))
