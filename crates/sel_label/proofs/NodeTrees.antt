-- Each node of a valid tree is the root of a tree over the grammar, which isn't larger.
use Rattle.std.proofs.Common.{◌≡◌, ℕ, ◌+◌, ◌-◌, ◌<◌, ◌≤◌, List, [], ◌∷◌, ◌++◌, sym, ap, subst, ◌∙◌, arith, length}
use Rattle.sel_grammar.specs.declared.grammar.Grammar.{Grammar}
use Rattle.sel_grammar.specs.PlainTrees.{PlainTree, Node0, Node1, Node2, size}
use Rattle.sel_forest.specs.declared.forest.Node.{Node}
use Rattle.sel_forest.specs.declared.forest.Tree.{Tree}
use Rattle.sel_forest.specs.Limits.{most_nodes}
use Rattle.sel_forest.specs.Postorder.{postorder}
use Rattle.sel_forest.specs.Places.{IsRootAt}
use Rattle.sel_forest.specs.Valid.{IsOperatorOf, IsAttribute, IsOver, IsValidTree}
use Rattle.sel_forest.proofs.Roots.{length-postorder, tree_at}
use Rattle.sel_label.proofs.Lists.{AllOf, both_lists, one_more, no_items}

-- the node's operator has as many kids, and its attribute is one
abbrev IsOwn : Grammar → Node → Type 0
IsOwn g node = IsOperatorOf g node.operator node.kids × IsAttribute node.attribute

own_nodes : (g : Grammar) (t : PlainTree) (base : ℕ) → IsOver g t → AllOf (IsOwn g) (postorder base t)
own_nodes g (Node0 op a) base h = one_more (IsOwn g) (record { operator = op; kids = 0; left = 0; right = 0; attribute = a }) [] (h.0, h.1) (no_items (IsOwn g))
own_nodes g (Node1 op a t) base h =
    let node : Node = record { operator = op; kids = 1; left = base + size t - 1; right = 0; attribute = a } in
    both_lists (IsOwn g) (postorder base t) (node ∷ []) (own_nodes g t base h.2) (one_more (IsOwn g) node [] (h.0, h.1) (no_items (IsOwn g)))
own_nodes g (Node2 op a t u) base h =
    let node : Node = record { operator = op; kids = 2; left = base + size t - 1; right = base + size t + size u - 1; attribute = a } in
    both_lists (IsOwn g) (postorder base t) (postorder (base + size t) u ++ node ∷ []) (own_nodes g t base h.2)
    (both_lists (IsOwn g) (postorder (base + size t) u) (node ∷ []) (own_nodes g u (base + size t) h.3) (one_more (IsOwn g) node [] (h.0, h.1) (no_items (IsOwn g))))

module _ (g : Grammar) (nodes : List Node) (own : AllOf (IsOwn g) nodes) where
  of_node : (i op kids : ℕ) (node : Node) (h : IsOwn g node) → node.operator ≡ op → node.kids ≡ kids → IsOperatorOf g op kids
  of_node i op kids node h is many = subst (λ x. IsOperatorOf g x kids) is (subst (IsOperatorOf g node.operator) many h.0)

  over_at : (i : ℕ) (u : PlainTree) → IsRootAt nodes i u → IsOver g u
  over_at i (Node0 op a) (node, get, is, kids, at) = let h = own i node get in (of_node i op 0 node h is kids, subst IsAttribute at h.1)
  over_at i (Node1 op a t) (node, get, is, kids, at, w) = let h = own i node get in (of_node i op 1 node h is kids, subst IsAttribute at h.1, over_at node.left t w.1)
  over_at i (Node2 op a t u) (node, get, is, kids, at, w) =
      let h = own i node get in (of_node i op 2 node h is kids, subst IsAttribute at h.1, over_at node.left t w.2, over_at node.right u w.3)

pub valid_node : (g : Grammar) (tree : Tree) (j : ℕ) → IsValidTree g tree → j < length tree.nodes → (u : PlainTree) × IsRootAt tree.nodes j u × IsOver g u × (size u ≤ most_nodes)
valid_node g tree j v lt =
    let found = tree_at tree.nodes v.plain j v.postorder lt in
    let small = v.small in
    let most = found.1.1 in
    (found.0, found.1.0, over_at g tree.nodes (subst (AllOf (IsOwn g)) (sym v.postorder) (own_nodes g v.plain 0 v.over)) j found.0 found.1.0, omega arith)

pub valid_few : (g : Grammar) (tree : Tree) → IsValidTree g tree → length tree.nodes ≤ most_nodes
valid_few g tree v =
    let long : length tree.nodes ≡ size v.plain = ap length v.postorder ∙ length-postorder v.plain 0 in
    let small = v.small in
    omega arith
