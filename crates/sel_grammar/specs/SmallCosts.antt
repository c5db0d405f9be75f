-- Costs whose numbers have a limit.
use Rattle.std.specs.Prelude.{◌≡◌, ℕ, ◌≤◌, pos, ◌≤ℤ◌, Some}
use Rattle.sel_grammar.specs.declared.grammar.Grammar.{Grammar}
use Rattle.sel_grammar.specs.declared.grammar.Rule.{Rule}
use Rattle.sel_grammar.specs.Costs.{Cost}
use Rattle.sel_grammar.specs.Fits.{rule_at}
use Rattle.sel_grammar.specs.Limits.{greatest_cost}

-- Each number of each rule's cost is within its limit. All costs that are held as `RuleCost` are.
abbrev pub HasSmallCosts : Grammar → Type 0
HasSmallCosts g = (r : ℕ) (rule : Rule) → rule_at g r ≡ Some rule → ((rule.cost).first ≤ greatest_cost) × ((rule.cost).second ≤ greatest_cost)

-- neither number is negative or more than `most`
pub record IsSmall (most : ℕ) (c : Cost) : Type 0 where
  pub first : c.first ≤ most
  pub low : pos 0 ≤ℤ c.second
  pub high : c.second ≤ℤ pos most
