-- The limits of a forest, and the kinds of its faults.
use Rattle.std.specs.Prelude.{ℕ}
use Rattle.sel_forest.specs.declared.limits.TheConstants.{MOST_TREES, MOST_NODES, GREATEST_DEPTH, TOKEN, UNKNOWN_OPERATOR, ARITY, NUMBER_LARGE, TOO_DEEP, TOO_MANY_NODES, TOO_MANY_TREES}

abbrev pub most_trees : ℕ
most_trees = MOST_TREES

abbrev pub most_nodes : ℕ
most_nodes = MOST_NODES

-- the root is at depth 1
abbrev pub greatest_depth : ℕ
greatest_depth = GREATEST_DEPTH

-- no line of the form goes on with this token
abbrev pub token : ℕ
token = TOKEN

abbrev pub unknown_operator : ℕ
unknown_operator = UNKNOWN_OPERATOR

abbrev pub arity : ℕ
arity = ARITY

abbrev pub number_large : ℕ
number_large = NUMBER_LARGE

abbrev pub too_deep : ℕ
too_deep = TOO_DEEP

abbrev pub too_many_nodes : ℕ
too_many_nodes = TOO_MANY_NODES

abbrev pub too_many_trees : ℕ
too_many_trees = TOO_MANY_TREES
