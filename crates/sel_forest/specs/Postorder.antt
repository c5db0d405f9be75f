-- A tree as its nodes in postorder.
use Rattle.std.specs.Prelude.{◌≡◌, ℕ, ◌+◌, ◌-◌, ◌≤◌, List, [], ◌∷◌, ◌++◌}
use Rattle.sel_grammar.specs.PlainTrees.{PlainTree, Node0, Node1, Node2, size}
use Rattle.sel_forest.specs.declared.forest.Node.{Node}
use Rattle.sel_forest.specs.declared.forest.Tree.{Tree}
use Rattle.sel_forest.specs.Limits.{most_nodes}

-- the nodes of a tree in postorder, where `base` other nodes stand before them
abbrev pub postorder : ℕ → PlainTree → List Node
postorder base (Node0 op a) = record { operator = op; kids = 0; left = 0; right = 0; attribute = a } ∷ []
postorder base (Node1 op a t) =
    postorder base t ++ record { operator = op; kids = 1; left = base + size t - 1; right = 0; attribute = a } ∷ []
postorder base (Node2 op a t u) =
    postorder base t ++ (postorder (base + size t) u ++ record { operator = op; kids = 2; left = base + size t - 1; right = base + size t + size u - 1; attribute = a } ∷ [])

-- the nodes are those of t
abbrev pub IsPostorderOf : Tree → PlainTree → Type 0
IsPostorderOf tree t = tree.nodes ≡ postorder 0 t

-- the nodes are some tree's, and not too many
abbrev pub IsTree : Tree → Type 0
IsTree tree = (t : PlainTree) × IsPostorderOf tree t × (size t ≤ most_nodes)
