-- A pattern has a subtree under each of its nonterminals.
use Rattle.std.proofs.Common.{◌≡◌, List, [], ◌++◌, length, arith, Bool, true, false, ◌==◌, if◌then◌else◌, Option, Some, None, refl, ap, length-append}
use Rattle.sel_grammar.specs.declared.grammar.Pattern.{Pattern, Leaf, Nullary, Unary', Binary', end_of-Pattern, more_of-Pattern}
use Rattle.sel_grammar.specs.PlainTrees.{PlainTree, Node0, Node1, Node2}
use Rattle.sel_grammar.specs.Fits.{leaves, subtrees, joined}
use Rattle.sel_base.proofs.Shared.Choices.{some_same}

pub subtrees_long : (p : Pattern) (t : PlainTree) (ts : List PlainTree) → subtrees p t ≡ Some ts → length (leaves p) ≡ length ts
subtrees_long (Leaf n) t ts h = ap length (some_same h)
subtrees_long (Nullary o) (Node0 op a) ts h = go (o == op) ts h
  where
    go : (b : Bool) (ts : List PlainTree) → (if b then Some [] else None) ≡ Some ts → 0 ≡ length ts
    go true ts h = ap length (some_same h)
    go false ts h = cc
subtrees_long (Nullary o) (Node1 op a t) ts h = cc
subtrees_long (Nullary o) (Node2 op a t u) ts h = cc
subtrees_long (Unary' o s (more_of-Pattern p end_of-Pattern)) (Node0 op a) ts h = cc
subtrees_long (Unary' o s (more_of-Pattern p end_of-Pattern)) (Node1 op a t) ts h = go (o == op) h (subtrees_long p t ts)
  where
    go : (b : Bool) → (if b then subtrees p t else None) ≡ Some ts → (subtrees p t ≡ Some ts → length (leaves p) ≡ length ts) → length (leaves p) ≡ length ts
    go true h k = k h
    go false h k = cc
subtrees_long (Unary' o s (more_of-Pattern p end_of-Pattern)) (Node2 op a t u) ts h = cc
subtrees_long (Binary' o s (more_of-Pattern p end_of-Pattern) s' (more_of-Pattern q end_of-Pattern)) (Node0 op a) ts h = cc
subtrees_long (Binary' o s (more_of-Pattern p end_of-Pattern) s' (more_of-Pattern q end_of-Pattern)) (Node1 op a t) ts h = cc
subtrees_long (Binary' o s (more_of-Pattern p end_of-Pattern) s' (more_of-Pattern q end_of-Pattern)) (Node2 op a t u) ts h =
    go (o == op) (subtrees p t) (subtrees q u) h (subtrees_long p t) (subtrees_long q u)
  where
    go : (b : Bool) (x y : Option (List PlainTree)) → (if b then joined x y else None) ≡ Some ts
        → ((ts : List PlainTree) → x ≡ Some ts → length (leaves p) ≡ length ts) → ((ts : List PlainTree) → y ≡ Some ts → length (leaves q) ≡ length ts) → length (leaves p ++ leaves q) ≡ length ts
    go false x y h k l = cc
    go true None y h k l = cc
    go true (Some xs) None h k l = cc
    go true (Some xs) (Some ys) h k l =
        let e = k xs refl in
        let f = l ys refl in
        let long : length (xs ++ ys) ≡ length ts = ap length (some_same h) in
        omega (arith, length-append (leaves p) (leaves q), length-append xs ys)
