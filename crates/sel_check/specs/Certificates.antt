-- What a certificate of a tree claims, and when it proves what it claims. Nothing here speaks of a least cost.
use Rattle.std.specs.Prelude.{◌≡◌, ℕ, ◌-◌, ◌⊎◌, Option, Some, None, List, [], ◌∷◌, length}
use Rattle.sel_grammar.specs.declared.grammar.Grammar.{Grammar}
use Rattle.sel_grammar.specs.declared.grammar.Rule.{Rule}
use Rattle.sel_grammar.specs.Costs.{Cost, no_cost, ◌⊕◌, IsCheaper, price}
use Rattle.sel_grammar.specs.PlainTrees.{PlainTree}
use Rattle.sel_grammar.specs.Fits.{fits, rule_at}
use Rattle.sel_forest.specs.declared.forest.Tree.{Tree}
use Rattle.sel_forest.specs.declared.walk.Goal.{Goal}
use Rattle.sel_forest.specs.Places.{IsRootAt, goals}
use Rattle.sel_forest.specs.Covers.{IsCover}
use Rattle.sel_plain.specs.NodeCosts.{NodeCosts, cost_at}

-- what is claimed of a goal: of a nonterminal at a node
abbrev pub claim : NodeCosts → Goal → Option Cost
claim costs goal = cost_at costs goal.at goal.nonterminal

-- the sum of both, where there are both
abbrev pub both : Option Cost → Option Cost → Option Cost
both (Some a) (Some b) = Some (a ⊕ b)
both _ _ = None

-- the sum of what is claimed of goals, where something is claimed of each
abbrev pub claimed : NodeCosts → List Goal → Option Cost
claimed costs [] = Some no_cost
claimed costs (goal ∷ rest) = both (claim costs goal) (claimed costs rest)

-- something is claimed, and it is at most this cost
abbrev pub IsAtMost : Option Cost → Cost → Type 0
IsAtMost None c = ⊥
IsAtMost (Some a) c = (a ≡ c) ⊎ IsCheaper a c

-- Wherever a rule fits the node's tree, and something is claimed of each goal under it, something is claimed of its left side, at most the rule's cost with theirs.
abbrev pub BoundsAt : Grammar → Tree → NodeCosts → ℕ → Type 0
BoundsAt g tree costs i = (r : ℕ) (rule : Rule) (t : PlainTree) (ts : List PlainTree) (c : Cost)
    → rule_at g r ≡ Some rule → IsRootAt tree.nodes i t → fits rule t ≡ Some ts → claimed costs (goals rule.pattern tree.nodes i) ≡ Some c
    → IsAtMost (claim costs (record { at = i; nonterminal = rule.left })) (price rule ⊕ c)

-- and so at each node
abbrev pub Bounds : Grammar → Tree → NodeCosts → Type 0
Bounds g tree costs = (i : ℕ) → BoundsAt g tree costs i

-- the root and the start symbol
abbrev pub start_goal : Grammar → Tree → Goal
start_goal g tree = record { at = length tree.nodes - 1; nonterminal = g.start }

-- the rules are those of a derivation from the start symbol whose cost is this one, or there are neither rules nor cost
abbrev pub IsShown : Grammar → PlainTree → Option Cost → Option (List ℕ) → Type 0
IsShown g t (Some c) (Some rules) = IsCover g t rules c
IsShown g t None None = Unit {0}
IsShown g t _ _ = ⊥

-- the claims bound each rule, and the one of the root and the start symbol is shown by the rules
pub record Proves (g : Grammar) (tree : Tree) (t : PlainTree) (costs : NodeCosts) (rules : Option (List ℕ)) : Type 0 where
  pub bounds : Bounds g tree costs
  pub shown : IsShown g t (claim costs (start_goal g tree)) rules
