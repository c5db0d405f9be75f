-- Ending the innermost open node puts its node down behind its kids' nodes.
use Rattle.std.proofs.Common.{◌≡◌, ℕ, ◌+◌, ◌-◌, ◌<◌, ◌≤◌, ◌^◌, List, [], ◌∷◌, ◌++◌, refl, ap, sym, ◌∙◌, arith, length, length-append, append_assoc, append-nil}
use Rattle.sel_grammar.specs.declared.grammar.Attribute.{Attribute}
use Rattle.sel_grammar.specs.declared.grammar.Attribute.TheVariants as attribute
use Rattle.sel_grammar.specs.PlainTrees.{PlainTree, size}
use Rattle.sel_forest.specs.declared.forest.Node.{Node}
use Rattle.sel_forest.specs.Limits.{most_nodes}
use Rattle.sel_forest.specs.Postorder.{postorder}
use Rattle.sel_forest.specs.OpenNodes.{Opened, Fresh, Half, Full, kid_count, whole, kids_nodes, own_node, put_down, own_nodes, attached, with_kid, closed, with_attribute, IsClosable, Holds, total}
use Rattle.sel_forest.proofs.Roots.{length-postorder}

-- a whole node's list is its kids' lists and its own node
pub whole_nodes : (base : ℕ) (o : Opened) → postorder base (whole o) ≡ kids_nodes base o ++ (own_node base o ∷ [])
whole_nodes base (Fresh op a) = refl
whole_nodes base (Half op a t) = refl
whole_nodes base (Full op a t u) = sym (append_assoc (postorder base t) (postorder (base + size t) u) _)

-- a node without two kids
abbrev HasRoom : Opened → Type 0
HasRoom o = kid_count o < 2

kid_nodes : (base : ℕ) (o : Opened) (t : PlainTree) → HasRoom o → kids_nodes base (with_kid o t) ≡ kids_nodes base o ++ postorder (base + length (kids_nodes base o)) t
kid_nodes base (Fresh op a) t h = ap (λ b. postorder b t) (let e : base ≡ base + 0 = omega arith in e)
kid_nodes base (Half op a u) t h = ap (λ n. postorder base u ++ postorder (base + n) t) (sym (length-postorder u base))
kid_nodes base (Full op a u v) t h = absurd (omega arith)

kid_own : (base : ℕ) (o : Opened) (t : PlainTree) → HasRoom o → own_node base (with_kid o t) ≡ attached (own_node base o) (base + length (kids_nodes base o) + size t - 1)
kid_own base (Fresh op a) t h =
    ap (λ n. record { operator = op; kids = 1; left = n; right = 0; attribute = a }) (let e : base + size t - 1 ≡ base + 0 + size t - 1 = omega arith in e)
kid_own base (Half op a u) t h =
    ap (λ n. record { operator = op; kids = 2; left = base + size u - 1; right = n; attribute = a })
    (ap (λ n. base + n + size t - 1) (sym (length-postorder u base)))
kid_own base (Full op a u v) t h = absurd (omega arith)

pub kids_length : (base : ℕ) (o : Opened) → length (kids_nodes base o) + 1 ≡ size (whole o)
kids_length base o =
    let e = length-postorder (whole o) base in
    let w = ap length (whole_nodes base o) in
    omega (arith, e, w, length-append (kids_nodes base o) (own_node base o ∷ []))

pub length-own : (os : List Opened) → length (own_nodes os) ≡ length os
length-own [] = refl
length-own (o ∷ os) =
    length-append (own_nodes os) (own_node (length (put_down os)) o ∷ []) ∙ (let e : length (own_nodes os) + 1 ≡ length (o ∷ os) = omega (arith, length-own os) in e)

-- The nodes put down and the open ones are all that were named.
total_is : (os : List Opened) → length (put_down os) + length os ≡ total os
total_is [] = refl
total_is (o ∷ os) =
    let a = length-append (put_down os) (kids_nodes (length (put_down os)) o) in
    let b = kids_length (length (put_down os)) o in
    omega (arith, a, b, total_is os)

pub few_nodes : (os : List Opened) (stack nodes : List Node) → Holds os stack nodes → total os ≤ most_nodes → length nodes < 2 ^ 32
few_nodes os stack nodes h small = let e : length nodes ≡ length (put_down os) = ap length h.nodes_are in omega (arith, e, total_is os)

-- the nodes and the stack after the innermost node ended
closed_nodes : (inner outer : Opened) (os : List Opened) → HasRoom outer
    → put_down (with_kid outer (whole inner) ∷ os) ≡ put_down (inner ∷ outer ∷ os) ++ (own_node (length (put_down (outer ∷ os))) inner ∷ [])
closed_nodes inner outer os h =
    let base = length (put_down os) in
    let mid : length (put_down (outer ∷ os)) ≡ base + length (kids_nodes base outer) = length-append (put_down os) (kids_nodes base outer) in
    ap (λ x. put_down os ++ x) (kid_nodes base outer (whole inner) h) ∙ sym (append_assoc (put_down os) (kids_nodes base outer) _)
    ∙ ap (λ n. put_down (outer ∷ os) ++ postorder n (whole inner)) (sym mid)
    ∙ ap (λ x. put_down (outer ∷ os) ++ x) (whole_nodes (length (put_down (outer ∷ os))) inner)
    ∙ sym (append_assoc (put_down (outer ∷ os)) (kids_nodes (length (put_down (outer ∷ os))) inner) _)

closed_own : (inner outer : Opened) (os : List Opened) → HasRoom outer
    → own_nodes (with_kid outer (whole inner) ∷ os) ≡ own_nodes os ++ (attached (own_node (length (put_down os)) outer) (length (put_down (inner ∷ outer ∷ os))) ∷ [])
closed_own inner outer os h =
    let base = length (put_down os) in
    let mid : length (put_down (outer ∷ os)) ≡ base + length (kids_nodes base outer) = length-append (put_down os) (kids_nodes base outer) in
    let last : length (put_down (inner ∷ outer ∷ os)) ≡ length (put_down (outer ∷ os)) + length (kids_nodes (length (put_down (outer ∷ os))) inner) = length-append (put_down (outer ∷ os)) _ in
    let own : length (kids_nodes (length (put_down (outer ∷ os))) inner) + 1 ≡ size (whole inner) = kids_length (length (put_down (outer ∷ os))) inner in
    let at : base + length (kids_nodes base outer) + size (whole inner) - 1 ≡ length (put_down (inner ∷ outer ∷ os)) = omega arith in
    ap (λ n. own_nodes os ++ (n ∷ [])) (kid_own base outer (whole inner) h ∙ ap (attached (own_node base outer)) at)

-- A name opens a node.
pub name_held : (os : List Opened) (stack stack' nodes : List Node) (op : ℕ) → Holds os stack nodes
    → stack' ≡ stack ++ (record { operator = op; kids = 0; left = 0; right = 0; attribute = attribute.Absent } ∷ [])
    → Holds (Fresh op attribute.Absent ∷ os) stack' nodes
name_held os stack stack' nodes op h e = record {
  stack_is = e ∙ ap (λ x. x ++ (record { operator = op; kids = 0; left = 0; right = 0; attribute = attribute.Absent } ∷ [])) h.stack_is;
  nodes_are = h.nodes_are ∙ sym (append-nil (put_down os));
}

-- An attribute is the innermost node's.
abbrev pub marked : Attribute → Node → Node
marked x n = record { operator = n.operator; kids = n.kids; left = n.left; right = n.right; attribute = x }

pub attribute_held : (os : List Opened) (stack stack' nodes : List Node) (x : Attribute) → Holds os stack nodes
    → ((below : List Node) (inner : Node) → stack ≡ below ++ (inner ∷ []) → stack' ≡ below ++ (marked x inner ∷ []))
    → 0 < length os → Holds (with_attribute x os) stack' nodes
attribute_held [] stack stack' nodes x h set some = absurd (omega arith)
attribute_held (Fresh op a ∷ os) stack stack' nodes x h set some =
    record { stack_is = set (own_nodes os) (own_node (length (put_down os)) (Fresh op a)) h.stack_is; nodes_are = h.nodes_are }
attribute_held (Half op a t ∷ os) stack stack' nodes x h set some =
    record { stack_is = set (own_nodes os) (own_node (length (put_down os)) (Half op a t)) h.stack_is; nodes_are = h.nodes_are }
attribute_held (Full op a t u ∷ os) stack stack' nodes x h set some =
    record { stack_is = set (own_nodes os) (own_node (length (put_down os)) (Full op a t u)) h.stack_is; nodes_are = h.nodes_are }

-- A comma or a closing parenthesis ends the innermost node.
pub close_held : (os : List Opened) (stack stack' nodes nodes' : List Node) → Holds os stack nodes → IsClosable os
    → ((below : List Node) (outer inner : Node) → stack ≡ (below ++ (outer ∷ [])) ++ (inner ∷ []) → (stack' ≡ below ++ (attached outer (length nodes) ∷ [])) × (nodes' ≡ nodes ++ (inner ∷ [])))
    → Holds (closed os) stack' nodes'
close_held [] stack stack' nodes nodes' h room done = absurd room
close_held (o ∷ []) stack stack' nodes nodes' h room done = absurd room
close_held (inner ∷ outer ∷ more) stack stack' nodes nodes' h room done =
    let n = own_node (length (put_down (outer ∷ more))) inner in
    let m = own_node (length (put_down more)) outer in
    let d = done (own_nodes more) m n h.stack_is in
    record {
      stack_is = d.0 ∙ ap (λ k. own_nodes more ++ (attached m k ∷ [])) (ap length h.nodes_are) ∙ sym (closed_own inner outer more room);
      nodes_are = d.1 ∙ ap (λ x. x ++ (n ∷ [])) h.nodes_are ∙ sym (closed_nodes inner outer more room);
    }

-- The root is left: the nodes and it are the tree.
pub root_nodes : (root : Opened) (stack nodes : List Node) → Holds (root ∷ []) stack nodes → nodes ++ (own_node 0 root ∷ []) ≡ postorder 0 (whole root)
root_nodes root stack nodes h = ap (λ x. x ++ (own_node 0 root ∷ [])) h.nodes_are ∙ sym (whole_nodes 0 root)
