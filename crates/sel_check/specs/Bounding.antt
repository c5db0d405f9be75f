-- The bound of one rule at a node, and of all: what the loop over the rules asks.
use Rattle.std.specs.Prelude.{◌≡◌, ℕ, ◌<◌, true, Some, List, length, slice_get}
use Rattle.sel_grammar.specs.declared.grammar.Grammar.{Grammar}
use Rattle.sel_grammar.specs.declared.grammar.Rule.{Rule}
use Rattle.sel_grammar.specs.Costs.{Cost, ◌⊕◌, price}
use Rattle.sel_forest.specs.declared.forest.Node.{Node}
use Rattle.sel_forest.specs.Places.{goals, fits_at}
use Rattle.sel_plain.specs.NodeCosts.{NodeCosts}
use Rattle.sel_check.specs.Certificates.{claim, claimed, IsAtMost}

-- where the rule fits and something is claimed of each goal under it, what is claimed of its left side is at most the sum
abbrev pub KeepsRule : List Node → NodeCosts → ℕ → Rule → Type 0
KeepsRule nodes costs i rule = (c : Cost) → fits_at rule nodes i ≡ true → claimed costs (goals rule.pattern nodes i) ≡ Some c
    → IsAtMost (claim costs (record { at = i; nonterminal = rule.left })) (price rule ⊕ c)

-- and so for each rule
abbrev pub KeepsRules : Grammar → List Node → NodeCosts → ℕ → Type 0
KeepsRules g nodes costs i = (k : ℕ) (rule : Rule) → slice_get g.rules k ≡ Some rule → KeepsRule nodes costs i rule

-- each rule is kept at the nodes before i, and not at i
pub record IsFirstBroken (g : Grammar) (nodes : List Node) (costs : NodeCosts) (i : ℕ) : Type 0 where
  pub inside : i < length nodes
  pub broken : KeepsRules g nodes costs i → ⊥
  pub before : (j : ℕ) → j < i → KeepsRules g nodes costs j
