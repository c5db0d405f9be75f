-- Goals, nonterminals and trees, one by one.
use Rattle.std.proofs.Common.{◌≡◌, ℕ, ◌<◌, Option, Some, None, List, [], ◌∷◌, ◌++◌, refl, sym, subst, slice_get, length, Bool, true, false, if◌then◌else◌, ◌==◌}
use Rattle.std.proofs.lemmas.Option.{slice_get_within}
use Rattle.sel_grammar.specs.declared.grammar.Pattern.{Pattern, Leaf, Nullary, Unary', Binary', end_of-Pattern, more_of-Pattern}
use Rattle.sel_grammar.specs.PlainTrees.{PlainTree, Node0, Node1, Node2}
use Rattle.sel_grammar.specs.Fits.{leaves, subtrees, joined}
use Rattle.sel_forest.specs.declared.forest.Node.{Node}
use Rattle.sel_forest.specs.declared.walk.Goal.{Goal}
use Rattle.sel_forest.specs.Places.{IsRootAt, goals, of_node}

pub some_same : {A : Type 0} {x y : A} → Some x ≡ Some y → x ≡ y
some_same h = cc

pub some_none : {A : Type 0} {x : A} → Some x ≡ None → ⊥
some_none h = cc

pub within : (nodes : List Node) (i : ℕ) (t : PlainTree) → IsRootAt nodes i t → i < length nodes
within nodes i (Node0 op a) h = slice_get_within nodes i h.0 h.1
within nodes i (Node1 op a t) h = slice_get_within nodes i h.0 h.1
within nodes i (Node2 op a t u) h = slice_get_within nodes i h.0 h.1

-- goals, nonterminals and trees, one by one
abbrev pub Match : List Node → List Goal → List ℕ → List PlainTree → Type 0
Match nodes [] [] [] = Unit {0}
Match nodes (goal ∷ rest) (n ∷ ns) (t ∷ ts) = (goal.nonterminal ≡ n) × IsRootAt nodes goal.at t × Match nodes rest ns ts
Match nodes _ _ _ = ⊥

Match-append : (nodes : List Node) (xs ys : List Goal) (ns ms : List ℕ) (ts us : List PlainTree) → Match nodes xs ns ts → Match nodes ys ms us → Match nodes (xs ++ ys) (ns ++ ms) (ts ++ us)
Match-append nodes [] ys [] ms [] us h k = k
Match-append nodes [] ys [] ms (t ∷ ts) us h k = absurd h
Match-append nodes [] ys (n ∷ ns) ms ts us h k = absurd h
Match-append nodes (x ∷ xs) ys [] ms ts us h k = absurd h
Match-append nodes (x ∷ xs) ys (n ∷ ns) ms [] us h k = absurd h
Match-append nodes (x ∷ xs) ys (n ∷ ns) ms (t ∷ ts) us h k = (h.0, h.1, Match-append nodes xs ys ns ms ts us h.2 k)

-- the goals under a pattern stand where its subtrees do
pub goals_match : (nodes : List Node) (p : Pattern) (i : ℕ) (t : PlainTree) (ts : List PlainTree) → IsRootAt nodes i t → subtrees p t ≡ Some ts → Match nodes (goals p nodes i) (leaves p) ts
goals_match nodes (Leaf n) i t ts stands h = subst (λ x. Match nodes (record { at = i; nonterminal = n } ∷ []) (n ∷ []) x) (some_same h) (refl, stands, tt)
goals_match nodes (Nullary o) i (Node0 op a) ts stands h = go (o == op) h
  where
    go : (b : Bool) → (if b then Some [] else None) ≡ Some ts → Match nodes [] [] ts
    go true h = subst (λ x. Match nodes [] [] x) (some_same h) tt
    go false h = cc
goals_match nodes (Nullary o) i (Node1 op a t) ts stands h = absurd (some_none (sym h))
goals_match nodes (Nullary o) i (Node2 op a t u) ts stands h = absurd (some_none (sym h))
goals_match nodes (Unary' o s (more_of-Pattern p end_of-Pattern)) i (Node0 op a) ts stands h = absurd (some_none (sym h))
goals_match nodes (Unary' o s (more_of-Pattern p end_of-Pattern)) i (Node1 op a t) ts (node, get, is, kids, at, w) h =
    go (o == op) h (λ e. goals_match nodes p node.left t ts w.1 e)
  where
    go : (b : Bool) → (if b then subtrees p t else None) ≡ Some ts → (subtrees p t ≡ Some ts → Match nodes (goals p nodes node.left) (leaves p) ts) → Match nodes (of_node (slice_get nodes i) (λ node. goals p nodes node.left)) (leaves p) ts
    go true h k = subst (λ x. Match nodes (of_node x (λ node. goals p nodes node.left)) (leaves p) ts) (sym get) (k h)
    go false h k = absurd (some_none (sym h))
goals_match nodes (Unary' o s (more_of-Pattern p end_of-Pattern)) i (Node2 op a t u) ts stands h = absurd (some_none (sym h))
goals_match nodes (Binary' o s (more_of-Pattern p end_of-Pattern) s' (more_of-Pattern q end_of-Pattern)) i (Node0 op a) ts stands h = absurd (some_none (sym h))
goals_match nodes (Binary' o s (more_of-Pattern p end_of-Pattern) s' (more_of-Pattern q end_of-Pattern)) i (Node1 op a t) ts stands h = absurd (some_none (sym h))
goals_match nodes (Binary' o s (more_of-Pattern p end_of-Pattern) s' (more_of-Pattern q end_of-Pattern)) i (Node2 op a t u) ts (node, get, is, kids, at, w) h =
    go (o == op) (subtrees p t) (subtrees q u) refl refl h (λ ts e. goals_match nodes p node.left t ts w.2 e) (λ ts e. goals_match nodes q node.right u ts w.3 e)
  where
    go : (b : Bool) (x y : Option (List PlainTree)) → subtrees p t ≡ x → subtrees q u ≡ y → (if b then joined x y else None) ≡ Some ts
        → ((ts : List PlainTree) → subtrees p t ≡ Some ts → Match nodes (goals p nodes node.left) (leaves p) ts) → ((ts : List PlainTree) → subtrees q u ≡ Some ts → Match nodes (goals q nodes node.right) (leaves q) ts)
        → Match nodes (of_node (slice_get nodes i) (λ node. goals p nodes node.left ++ goals q nodes node.right)) (leaves p ++ leaves q) ts
    go false x y e f h k l = absurd (some_none (sym h))
    go true None y e f h k l = absurd (some_none (sym h))
    go true (Some xs) None e f h k l = absurd (some_none (sym h))
    go true (Some xs) (Some ys) e f h k l =
        subst (λ x. Match nodes (of_node x (λ node. goals p nodes node.left ++ goals q nodes node.right)) (leaves p ++ leaves q) ts) (sym get)
        (subst (λ x. Match nodes (goals p nodes node.left ++ goals q nodes node.right) (leaves p ++ leaves q) x) (some_same h)
        (Match-append nodes (goals p nodes node.left) (goals q nodes node.right) (leaves p) (leaves q) xs ys (k xs e) (l ys f)))
