-- The costs of the best derivations of each node's tree. The contract of `table` cites these words.
use Rattle.std.specs.Prelude.{◌≡◌, ℕ, ◌*◌, Option, Some, None, List, [], length, slice_get}
use Rattle.std.specs.Option.{option_flatten, unwrap_or}
use Rattle.sel_grammar.specs.declared.grammar.Grammar.{Grammar}
use Rattle.sel_grammar.specs.Costs.{Cost}
use Rattle.sel_grammar.specs.Limits.{greatest_cost, most_nonterminals}
use Rattle.sel_grammar.specs.SmallCosts.{IsSmall}
use Rattle.sel_grammar.specs.PlainTrees.{PlainTree}
use Rattle.sel_grammar.specs.Derivations.{Derivation, cost}
use Rattle.sel_grammar.specs.Best.{IsBest, HasNone}
use Rattle.sel_forest.specs.declared.forest.Tree.{Tree}
use Rattle.sel_forest.specs.Limits.{most_nodes}
use Rattle.sel_forest.specs.Places.{IsRootAt}

-- for each node in postorder a row, with a cost or nothing for each nonterminal
abbrev pub NodeCosts : Type 0
NodeCosts = List (List (Option Cost))

-- what stands for a nonterminal at a node
abbrev pub cost_at : NodeCosts → ℕ → ℕ → Option Cost
cost_at costs i n = option_flatten (slice_get (unwrap_or (slice_get costs i) []) n)

-- a row for each node, with a place for each nonterminal
pub record HasPlaces (g : Grammar) (tree : Tree) (costs : NodeCosts) : Type 0 where
  pub nodes : length costs ≡ length tree.nodes
  pub nonterminals : (i : ℕ) (row : List (Option Cost)) → slice_get costs i ≡ Some row → length row ≡ length g.nonterminals

-- the cost of the best derivation, or none where nothing derives the tree
abbrev pub IsBestCost : Grammar → ℕ → PlainTree → Option Cost → Type 0
IsBestCost g n t None = HasNone g n t
IsBestCost g n t (Some c) = (d : Derivation) × IsBest g d n t × (c ≡ cost g d)

-- so for each nonterminal and the tree of each node
abbrev pub AreBestCosts : Grammar → Tree → NodeCosts → Type 0
AreBestCosts g tree costs = (i n : ℕ) (t : PlainTree) → IsRootAt tree.nodes i t → IsBestCost g n t (cost_at costs i n)

-- no number is below 0, nor above the sum of the dearest rules, one for each node and nonterminal
abbrev pub AreSmallCosts : NodeCosts → Type 0
AreSmallCosts costs = (i n : ℕ) (c : Cost) → cost_at costs i n ≡ Some c → IsSmall (most_nodes * most_nonterminals * greatest_cost) c
