-- How much a cover may cost.
use Rattle.std.specs.Prelude.{ℕ, ◌*◌}
use Rattle.sel_grammar.specs.Limits.{most_nonterminals, greatest_cost}
use Rattle.sel_forest.specs.Limits.{most_nodes}

-- each number of a best derivation's cost is at most this, since a tree has that many nodes and a best derivation that many rules at each
abbrev pub most_cost : ℕ
most_cost = most_nodes * most_nonterminals * greatest_cost
