-- Derivations of a goal, and a rule that is applied to one.
use Rattle.std.specs.Prelude.{◌≡◌, ℕ, true, Option, Some, None, List, ◌++◌, reverse}
use Rattle.sel_grammar.specs.declared.grammar.Grammar.{Grammar}
use Rattle.sel_grammar.specs.declared.grammar.Rule.{Rule}
use Rattle.sel_grammar.specs.declared.grammar.RuleCost.{RuleCost}
use Rattle.sel_grammar.specs.PlainTrees.{PlainTree}
use Rattle.sel_grammar.specs.Fits.{rule_at}
use Rattle.sel_grammar.specs.Derivations.{Derivation, Derives}
use Rattle.sel_forest.specs.declared.forest.Node.{Node}
use Rattle.sel_forest.specs.declared.walk.Goal.{Goal}
use Rattle.sel_forest.specs.Places.{IsRootAt, goals, fits_at}

-- a derivation of a goal: of the tree at its node, from its nonterminal
abbrev pub DerivesAt : Grammar → List Node → Derivation → Goal → Type 0
DerivesAt g nodes d goal = (t : PlainTree) × (IsRootAt nodes goal.at t × Derives g d goal.nonterminal t)

-- the rule of this number fits the goal
pub record IsRuleFor (g : Grammar) (nodes : List Node) (goal : Goal) (number : ℕ) : Type 0 where
  pub rule : Rule
  pub numbered : rule_at g number ≡ Some rule
  pub left : rule.left ≡ goal.nonterminal
  pub fits : fits_at rule nodes goal.at ≡ true

-- the rule of this number fits the goal, costs this much, and its own goals are put on the stack
pub record AppliesRule (g : Grammar) (nodes : List Node) (goal : Goal) (number : ℕ) (old new : List Goal) (c : RuleCost) : Type 0 where
  pub is : IsRuleFor g nodes goal number
  pub pushes : new ≡ old ++ reverse (goals is.rule.pattern nodes goal.at)
  pub cost_is : c ≡ is.rule.cost

-- the rule is applied and tells its cost, or none where it doesn't fit
abbrev pub IsApplied : Grammar → List Node → Goal → ℕ → List Goal → List Goal → Option RuleCost → Type 0
IsApplied g nodes goal number old new None = IsRuleFor g nodes goal number → ⊥
IsApplied g nodes goal number old new (Some c) = AppliesRule g nodes goal number old new c
