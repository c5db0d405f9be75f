-- What a rule offers at a node: the cost of its kids by the rows of lower nodes, and by the node's own row where it is a chain rule.
use Rattle.std.specs.Prelude.{ℕ, if◌then◌else◌, Option, Some, None, List, slice_get}
use Rattle.std.specs.Option.{option_and_then}
use Rattle.sel_grammar.specs.declared.grammar.Pattern.{Pattern, Leaf, Nullary, Unary', Binary', end_of-Pattern, more_of-Pattern}
use Rattle.sel_grammar.specs.declared.grammar.Rule.{Rule}
use Rattle.sel_grammar.specs.Fits.{in_range}
use Rattle.sel_grammar.specs.Costs.{Cost, no_cost}
use Rattle.sel_forest.specs.declared.forest.Node.{Node}
use Rattle.sel_forest.specs.Places.{met}
use Rattle.sel_plain.specs.Rows.{Row, entry_at, row_at, entry_cost}
use Rattle.sel_plain.specs.CostBounds.{capped_sum}

-- the sum of both, where there are both
abbrev pub both_costs : Option Cost → Option Cost → Option Cost
both_costs (Some a) (Some b) = Some (capped_sum a b)
both_costs _ _ = None

-- what the best derivations for a pattern's nonterminals cost, where it lies over the tree of the node at i
abbrev pub kids_cost : Pattern → List Node → List Row → ℕ → Option Cost
kids_cost (Leaf n) nodes rows i = entry_cost (entry_at (row_at rows i) n)
kids_cost (Nullary op) nodes rows i = option_and_then (λ node. Some no_cost) (met (slice_get nodes i) op 0)
kids_cost (Unary' op s (more_of-Pattern p end_of-Pattern)) nodes rows i = option_and_then (λ node. kids_cost p nodes rows node.left) (met (slice_get nodes i) op 1)
kids_cost (Binary' op s (more_of-Pattern p end_of-Pattern) s' (more_of-Pattern q end_of-Pattern)) nodes rows i =
    option_and_then (λ node. both_costs (kids_cost p nodes rows node.left) (kids_cost q nodes rows node.right)) (met (slice_get nodes i) op 2)

-- the same, but that a pattern that is a nonterminal asks the node's own row
abbrev pub offered_by : Pattern → List Node → List Row → Row → ℕ → Option Cost
offered_by (Leaf n) nodes rows row i = entry_cost (entry_at row n)
offered_by p nodes rows row i = kids_cost p nodes rows i

-- what a rule's kids cost at the node at i, where it fits
abbrev pub offered : Rule → List Node → List Row → Row → ℕ → Option Cost
offered rule nodes rows row i = option_and_then (λ node. if in_range rule.range node.attribute then offered_by rule.pattern nodes rows row i else None) (slice_get nodes i)
