-- What a rule offers to the entry of its left side, and whether the entry stands against it.
use Rattle.std.specs.Prelude.{◌≡◌, ℕ, ◌<◌, ◌^◌, Option, Some, None, slice_set}
use Rattle.sel_grammar.specs.declared.grammar.RuleCost.{RuleCost}
use Rattle.sel_grammar.specs.Costs.{Cost, ◌⊕◌, paid}
use Rattle.sel_normal.specs.declared.normal.NormalRule.{NormalRule}
use Rattle.sel_normal.specs.NormalForms.{NormalForm}
use Rattle.sel_items.specs.declared.items.Item.{Item}
use Rattle.sel_items.specs.Entries.{ItemRow, item_at, NoLater}
use Rattle.sel_items.specs.Follows.{NodeKey, operator_cost}

-- the rule r offers its price and what its kids cost, where they have a cost
abbrev pub offer_for : RuleCost → ℕ → Option Cost → Option Item
offer_for price r None = None
offer_for price r (Some k) = Some (record { cost = paid price ⊕ k; rule = r })

-- what a rule offers for the key, where it is an operator rule for it
abbrev pub operator_offer : NormalForm → NodeKey → NormalRule → ℕ → Option Item
operator_offer normal key rule r = offer_for rule.cost r (operator_cost normal key rule.body)

-- an entry stands against an offer that is no better
abbrev pub Stands : Option Item → Option Item → Type 0
Stands e None = Unit {0}
Stands None (Some o) = ⊥
Stands (Some e) (Some o) = NoLater e.cost e.rule o.cost o.rule

-- the entry of `left` was replaced by the offer, against which it didn't stand
pub record IsBettered (left : ℕ) (offer : Option Item) (old new : ItemRow) : Type 0 where
  pub item : Item
  pub offered_is : offer ≡ Some item
  pub set : new ≡ slice_set old left (Some item)
  pub later : (e : Item) → item_at old left ≡ Some e → NoLater e.cost e.rule item.cost item.rule → ⊥

-- each number of a rule's cost has 16 bits
abbrev pub IsCheap : RuleCost → Type 0
IsCheap c = (c.first < 2 ^ 16) × (c.second < 2 ^ 16)
