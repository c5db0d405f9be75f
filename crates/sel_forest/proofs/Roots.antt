-- The nodes of a tree in postorder: each node has its tree, and the last node has the whole one. For the proofs of the crates above too.
use Rattle.std.proofs.Common.{◌≡◌, ℕ, zero, suc, ◌+◌, ◌-◌, ◌<◌, ◌≤◌, ◌⊎◌, inl, inr, Some, List, [], ◌∷◌, ◌++◌, refl, ap, sym, ◌∙◌, subst, slice_get, arith, length, length-append}
use Rattle.sel_grammar.specs.PlainTrees.{PlainTree, Node0, Node1, Node2, size}
use Rattle.sel_grammar.specs.declared.grammar.Attribute.{Attribute}
use Rattle.sel_forest.specs.declared.forest.Node.{Node}
use Rattle.sel_forest.specs.Postorder.{postorder}
use Rattle.sel_forest.specs.Places.{IsRootAt, SizesBelow}
use Rattle.sel_forest.specs.Laws.{PlainTreeIsOne}
use Rattle.sel_forest.proofs.Matching.{some_same, within}

-- one tree stands at a node
pub same_tree : (nodes : List Node) (i : ℕ) (s t : PlainTree) → IsRootAt nodes i s → IsRootAt nodes i t → s ≡ t
same_tree nodes i (Node0 op a) (Node0 op' a') (node, get, is, kids, at) (node', get', is', kids', at') =
    let q : node ≡ node' = some_same (sym get ∙ get') in
    λ j. Node0 ((sym is ∙ ap (λ (n : Node). n.operator) q ∙ is') j) ((sym at ∙ ap (λ (n : Node). n.attribute) q ∙ at') j)
same_tree nodes i (Node0 op a) (Node1 op' a' t') (node, get, is, kids, at) (node', get', is', kids', at', w') =
    let q : node.kids ≡ node'.kids = ap (λ (n : Node). n.kids) (some_same (sym get ∙ get')) in absurd (omega arith)
same_tree nodes i (Node0 op a) (Node2 op' a' t' u') (node, get, is, kids, at) (node', get', is', kids', at', w') =
    let q : node.kids ≡ node'.kids = ap (λ (n : Node). n.kids) (some_same (sym get ∙ get')) in absurd (omega arith)
same_tree nodes i (Node1 op a t) (Node0 op' a') (node, get, is, kids, at, w) (node', get', is', kids', at') =
    let q : node.kids ≡ node'.kids = ap (λ (n : Node). n.kids) (some_same (sym get ∙ get')) in absurd (omega arith)
same_tree nodes i (Node1 op a t) (Node1 op' a' t') (node, get, is, kids, at, w) (node', get', is', kids', at', w') =
    let q : node ≡ node' = some_same (sym get ∙ get') in
    let r = same_tree nodes node.left t t' w.1 (subst (λ (n : Node). IsRootAt nodes n.left t') (sym q) w'.1) in
    λ j. Node1 ((sym is ∙ ap (λ (n : Node). n.operator) q ∙ is') j) ((sym at ∙ ap (λ (n : Node). n.attribute) q ∙ at') j) (r j)
same_tree nodes i (Node1 op a t) (Node2 op' a' t' u') (node, get, is, kids, at, w) (node', get', is', kids', at', w') =
    let q : node.kids ≡ node'.kids = ap (λ (n : Node). n.kids) (some_same (sym get ∙ get')) in absurd (omega arith)
same_tree nodes i (Node2 op a t u) (Node0 op' a') (node, get, is, kids, at, w) (node', get', is', kids', at') =
    let q : node.kids ≡ node'.kids = ap (λ (n : Node). n.kids) (some_same (sym get ∙ get')) in absurd (omega arith)
same_tree nodes i (Node2 op a t u) (Node1 op' a' t') (node, get, is, kids, at, w) (node', get', is', kids', at', w') =
    let q : node.kids ≡ node'.kids = ap (λ (n : Node). n.kids) (some_same (sym get ∙ get')) in absurd (omega arith)
same_tree nodes i (Node2 op a t u) (Node2 op' a' t' u') (node, get, is, kids, at, w) (node', get', is', kids', at', w') =
    let q : node ≡ node' = some_same (sym get ∙ get') in
    let r = same_tree nodes node.left t t' w.2 (subst (λ (n : Node). IsRootAt nodes n.left t') (sym q) w'.2) in
    let r' = same_tree nodes node.right u u' w.3 (subst (λ (n : Node). IsRootAt nodes n.right u') (sym q) w'.3) in
    λ j. Node2 ((sym is ∙ ap (λ (n : Node). n.operator) q ∙ is') j) ((sym at ∙ ap (λ (n : Node). n.attribute) q ∙ at') j) (r j) (r' j)

pub slice_get-left : {A : Type 0} (xs ys : List A) (k : ℕ) → k < length xs → slice_get (xs ++ ys) k ≡ slice_get xs k
slice_get-left [] ys k h = absurd (omega arith)
slice_get-left (x ∷ xs) ys zero h = refl
slice_get-left (x ∷ xs) ys (suc k) h = slice_get-left xs ys k (omega arith)

pub slice_get-right : {A : Type 0} (xs ys : List A) (k j : ℕ) → j ≡ length xs + k → slice_get (xs ++ ys) j ≡ slice_get ys k
slice_get-right [] ys k j h = let q : j ≡ k = omega arith in ap (slice_get ys) q
slice_get-right (x ∷ xs) ys k zero h = absurd (omega arith)
slice_get-right (x ∷ xs) ys k (suc j) h = slice_get-right xs ys k j (omega arith)

pub length-postorder : (t : PlainTree) (base : ℕ) → length (postorder base t) ≡ size t
length-postorder (Node0 op a) base = refl
length-postorder (Node1 op a t) base =
    let n : Node = record { operator = op; kids = 1; left = base + size t - 1; right = 0; attribute = a } in
    let h = length-postorder t base in
    omega (arith, length-append (postorder base t) (n ∷ []))
length-postorder (Node2 op a t u) base =
    let n : Node = record { operator = op; kids = 2; left = base + size t - 1; right = base + size t + size u - 1; attribute = a } in
    let h = length-postorder t base in
    let k = length-postorder u (base + size t) in
    omega (arith, length-append (postorder base t) (postorder (base + size t) u ++ n ∷ []), length-append (postorder (base + size t) u) (n ∷ []))

pub size_some : (t : PlainTree) → 1 ≤ size t
size_some (Node0 op a) = omega arith
size_some (Node1 op a t) = omega arith
size_some (Node2 op a t u) = omega arith

module _ (nodes : List Node) where
  -- the tree's nodes stand from base on
  IsPlaced : ℕ → PlainTree → Type 0
  IsPlaced base t = (k j : ℕ) → k < size t → j ≡ base + k → slice_get nodes j ≡ slice_get (postorder base t) k

  module _ (base op : ℕ) (a : Attribute) (t : PlainTree) (h : IsPlaced base (Node1 op a t)) where
    one_node : Node
    one_node = record { operator = op; kids = 1; left = base + size t - 1; right = 0; attribute = a }

    one_kid : IsPlaced base t
    unfolding IsPlaced
    one_kid k j lt e = let l = length-postorder t base in
        h k j (omega arith) e ∙ slice_get-left (postorder base t) (record { operator = op; kids = 1; left = base + size t - 1; right = 0; attribute = a } ∷ []) k (omega arith)

    one_root : (j : ℕ) → j ≡ base + size t → slice_get nodes j ≡ Some one_node
    unfolding IsPlaced one_node
    one_root j e = let l = length-postorder t base in
        h (size t) j (omega arith) e ∙ slice_get-right (postorder base t) (record { operator = op; kids = 1; left = base + size t - 1; right = 0; attribute = a } ∷ []) 0 (size t) (omega arith)

  module _ (base op : ℕ) (a : Attribute) (t u : PlainTree) (h : IsPlaced base (Node2 op a t u)) where
    two_node : Node
    two_node = record { operator = op; kids = 2; left = base + size t - 1; right = base + size t + size u - 1; attribute = a }

    first_kid : IsPlaced base t
    unfolding IsPlaced
    first_kid k j lt e = let l = length-postorder t base in
        h k j (omega arith) e ∙ slice_get-left (postorder base t) _ k (omega arith)

    second_kid : IsPlaced (base + size t) u
    unfolding IsPlaced
    second_kid k j lt e = let l = length-postorder t base in let l' = length-postorder u (base + size t) in
        h (size t + k) j (omega arith) (omega arith) ∙ slice_get-right (postorder base t) _ k (size t + k) (omega arith)
        ∙ slice_get-left (postorder (base + size t) u) _ k (omega arith)

    two_root : (j : ℕ) → j ≡ base + size t + size u → slice_get nodes j ≡ Some two_node
    unfolding IsPlaced two_node
    two_root j e = let l = length-postorder t base in let l' = length-postorder u (base + size t) in
        h (size t + size u) j (omega arith) (omega arith) ∙ slice_get-right (postorder base t) _ (size u) (size t + size u) (omega arith)
        ∙ slice_get-right (postorder (base + size t) u) _ 0 (size u) (omega arith)

  stands_last : (t : PlainTree) (base j : ℕ) → IsPlaced base t → j ≡ base + size t - 1 → IsRootAt nodes j t
  unfolding IsPlaced one_node two_node
  stands_last (Node0 op a) base j h e = (record { operator = op; kids = 0; left = 0; right = 0; attribute = a }, h 0 j (omega arith) (omega arith), refl, refl, refl)
  stands_last (Node1 op a t) base j h e =
      let some = size_some t in (
        record { operator = op; kids = 1; left = base + size t - 1; right = 0; attribute = a },
        one_root base op a t h j (omega arith),
        refl,
        refl,
        refl,
        (omega arith, stands_last t base (base + size t - 1) (one_kid base op a t h) refl),
      )
  stands_last (Node2 op a t u) base j h e =
      let some = size_some t in
      let some' = size_some u in (
        record { operator = op; kids = 2; left = base + size t - 1; right = base + size t + size u - 1; attribute = a },
        two_root base op a t u h j (omega arith),
        refl,
        refl,
        refl,
        (
          omega arith,
          omega arith,
          stands_last t base (base + size t - 1) (first_kid base op a t u h) refl,
          stands_last u (base + size t) (base + size t + size u - 1) (second_kid base op a t u h) refl,
        ),
      )

  -- what goes from a tree to its kids holds of the tree at each node
  module _ (P : PlainTree → Type 0) (below_one : (op : ℕ) (a : Attribute) (t : PlainTree) → P (Node1 op a t) → P t) (below_two : (op : ℕ) (a : Attribute) (t u : PlainTree) → P (Node2 op a t u) → P t × P u) where
    abbrev HasTree : ℕ → ℕ → Type 0
    HasTree j most = (s : PlainTree) × (IsRootAt nodes j s × (P s × (size s ≤ most)))

    wider : (j most more : ℕ) → most ≤ more → HasTree j most → HasTree j more
    wider j most more h (s, (stands, (holds, small))) = (s, (stands, (holds, omega arith)))

    stands_each : (t : PlainTree) (base k j : ℕ) → P t → IsPlaced base t → k < size t → j ≡ base + k → HasTree j (size t)
    stands_each (Node0 op a) base k j holds h lt e = (Node0 op a, (stands_last (Node0 op a) base j h (omega arith), (holds, omega arith)))
    stands_each (Node1 op a t) base k j holds h lt e = go (split k (size t) lt) (λ lt. stands_each t base k j (below_one op a t holds) (one_kid base op a t h) lt e)
      where
        split : (k n : ℕ) → k < n + 1 → (k < n) ⊎ (k ≡ n)
        split k n h = grind arith

        go : (k < size t) ⊎ (k ≡ size t) → (k < size t → HasTree j (size t)) → HasTree j (size t + 1)
        go (inl l) r = wider j (size t) (size t + 1) (omega arith) (r l)
        go (inr q) r = (Node1 op a t, (stands_last (Node1 op a t) base j h (omega arith), (holds, omega arith)))
    stands_each (Node2 op a t u) base k j holds h lt e =
        go (split k (size t) (size u) lt) (λ lt. stands_each t base k j (below_two op a t u holds).0 (first_kid base op a t u h) lt e)
        (λ lt from. stands_each u (base + size t) (k - size t) j (below_two op a t u holds).1 (second_kid base op a t u h) lt from)
      where
        split : (k n m : ℕ) → k < n + m + 1 → (k < n) ⊎ (((k - n < m) × (n ≤ k)) ⊎ (k ≡ n + m))
        split k n m h = grind arith

        go : (k < size t) ⊎ (((k - size t < size u) × (size t ≤ k)) ⊎ (k ≡ size t + size u)) → (k < size t → HasTree j (size t))
            → (k - size t < size u → j ≡ base + size t + (k - size t) → HasTree j (size u)) → HasTree j (size t + size u + 1)
        go (inl l) r r' = wider j (size t) (size t + size u + 1) (omega arith) (r l)
        go (inr (inl l)) r r' = wider j (size u) (size t + size u + 1) (omega arith) (r' l.0 (omega arith))
        go (inr (inr q)) r r' = (Node2 op a t u, (stands_last (Node2 op a t u) base j h (omega arith), (holds, omega arith)))

pub stands_root : (nodes : List Node) (t : PlainTree) → nodes ≡ postorder 0 t → IsRootAt nodes (length nodes - 1) t
unfolding IsPlaced
stands_root nodes t h =
    let long : length nodes ≡ size t = ap length h ∙ length-postorder t 0 in
    stands_last nodes t 0 (length nodes - 1) (λ k j lt e. let q : j ≡ k = omega arith in ap (slice_get nodes) q ∙ ap (λ x. slice_get x k) h) (omega arith)

pub some_node : (nodes : List Node) (t : PlainTree) → nodes ≡ postorder 0 t → 1 ≤ length nodes
some_node nodes t h = let long : length nodes ≡ size t = ap length h ∙ length-postorder t 0 in let some = size_some t in omega arith

-- what goes from a tree to its kids holds of the tree at each node
pub tree_with : (P : PlainTree → Type 0) → ((op : ℕ) (a : Attribute) (t : PlainTree) → P (Node1 op a t) → P t) → ((op : ℕ) (a : Attribute) (t u : PlainTree) → P (Node2 op a t u) → P t × P u)
    → (nodes : List Node) (t : PlainTree) (i : ℕ) → nodes ≡ postorder 0 t → P t → i < length nodes → (s : PlainTree) × (IsRootAt nodes i s × (P s × (size s ≤ size t)))
unfolding IsPlaced
tree_with P below_one below_two nodes t i h holds lt =
    let long : length nodes ≡ size t = ap length h ∙ length-postorder t 0 in
    stands_each nodes P below_one below_two t 0 i i holds (λ k j lt e. let q : j ≡ k = omega arith in ap (slice_get nodes) q ∙ ap (λ x. slice_get x k) h) (omega arith) (omega arith)

-- a tree stands at each node
pub tree_at : (nodes : List Node) (t : PlainTree) (i : ℕ) → nodes ≡ postorder 0 t → i < length nodes → (s : PlainTree) × (IsRootAt nodes i s × (size s ≤ size t))
tree_at nodes t i h lt = let (s, (stands, (_, small))) = tree_with (λ _. Unit {0}) (λ op a t h. tt) (λ op a t u h. (tt, tt)) nodes t i h tt lt in (s, (stands, small))

pub SizesBelow-spelled : (nodes : List Node) (t : PlainTree) (n : ℕ) → nodes ≡ postorder 0 t → size t < n → SizesBelow nodes n
SizesBelow-spelled nodes t n h small i s stands =
    let found = tree_at nodes t i h (within nodes i s stands) in
    let same : size s ≡ size found.0 = ap size (same_tree nodes i s found.0 stands found.1.0) in
    let most = found.1.1 in
    omega arith

pub plain_one : PlainTreeIsOne
plain_one tree t u h k = same_tree tree.nodes (length tree.nodes - 1) t u (stands_root tree.nodes t h) (stands_root tree.nodes u k)
