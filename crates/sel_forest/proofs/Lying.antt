-- A pattern lies over the tree of a node where it has subtrees there.
use Rattle.std.proofs.Common.{◌≡◌, ℕ, Bool, true, false, ◌&&◌, ◌==◌, if◌then◌else◌, Option, Some, None, List, [], refl, ap, sym, ◌∙◌, slice_get}
use Rattle.sqlite_items.specs.declared.boxed.Boxed.{Boxed}
use Rattle.sel_grammar.specs.declared.grammar.Rule.{Rule}
use Rattle.sel_grammar.specs.declared.grammar.Pattern.{Pattern, Leaf, Nullary, Unary, Binary, Unary', Binary', end_of-Pattern, more_of-Pattern}
use Rattle.sel_grammar.specs.declared.grammar.Pattern.TheBlock.{shape-the_row-Pattern-0, hidden-the_row-Pattern-0}
use denote.Hole.Carrier.{hidden}
use Rattle.sel_grammar.specs.PlainTrees.{PlainTree, Node0, Node1, Node2, attribute_of}
use Rattle.sel_grammar.specs.Fits.{subtrees, joined, fits, in_range}
use Rattle.sel_forest.specs.declared.forest.Node.{Node}
use Rattle.sel_forest.specs.Places.{IsRootAt, met, has, lies, fits_at}

pub lies_unary : (op : ℕ) (p : Boxed Pattern) (nodes : List Node) (i : ℕ) → lies (Unary op p) nodes i ≡ has (met (slice_get nodes i) op 1) (λ node. lies p nodes node.left)
unfolding shape-the_row-Pattern-0 hidden-the_row-Pattern-0 hidden
lies_unary op p nodes i = refl

pub lies_binary : (op : ℕ) (p q : Boxed Pattern) (nodes : List Node) (i : ℕ)
    → lies (Binary op p q) nodes i ≡ has (met (slice_get nodes i) op 2) (λ node. lies p nodes node.left && lies q nodes node.right)
unfolding shape-the_row-Pattern-0 hidden-the_row-Pattern-0 hidden
lies_binary op p q nodes i = refl

pub ruleset lies_cases = (lies_unary, lies_binary)

pub unary_at : (pattern : Pattern) (op : ℕ) (b : Boxed Pattern) (p : Pattern) (node : Node) (nodes : List Node) (i : ℕ) (r : Bool)
    → pattern ≡ Unary op b → Some node ≡ met (slice_get nodes i) op 1 → p ≡ b → r ≡ lies p nodes node.left → r ≡ lies pattern nodes i
unary_at pattern op b p node nodes i r is here q e =
    e ∙ ap (λ x. lies x nodes node.left) q ∙ ap (λ x. has x (λ (node : Node). lies b nodes node.left)) here
    ∙ sym (lies_unary op b nodes i) ∙ ap (λ x. lies x nodes i) (sym is)

pub binary_at : (pattern : Pattern) (op : ℕ) (b b' : Boxed Pattern) (p p' : Pattern) (node : Node) (nodes : List Node) (i : ℕ) (r s t : Bool)
    → pattern ≡ Binary op b b' → Some node ≡ met (slice_get nodes i) op 2 → p ≡ b → p' ≡ b' → r ≡ lies p nodes node.left → s ≡ lies p' nodes node.right
    → t ≡ (r && s) → t ≡ lies pattern nodes i
binary_at pattern op b b' p p' node nodes i r s t is here q q' e f h =
    h ∙ ap (λ x. x && s) (e ∙ ap (λ x. lies x nodes node.left) q) ∙ ap (λ x. lies b nodes node.left && x) (f ∙ ap (λ x. lies x nodes node.right) q')
    ∙ ap (λ x. has x (λ (node : Node). lies b nodes node.left && lies b' nodes node.right)) here
    ∙ sym (lies_binary op b b' nodes i) ∙ ap (λ x. lies x nodes i) (sym is)

abbrev pub given : {A : Type 0} → Option A → Bool
given None = false
given (Some x) = true

met_is : (nodes : List Node) (i : ℕ) (node : Node) (o k op n : ℕ) → slice_get nodes i ≡ Some node → node.operator ≡ op → node.kids ≡ n
    → met (slice_get nodes i) o k ≡ (if (o == op) && (k == n) then Some node else None)
met_is nodes i node o k op n get is kids = ap (λ x. met x o k) get ∙ (λ j. if (o == is j) && (k == kids j) then Some node else None)

met_not : (b : Bool) (node : Node) (f : Node → Bool) → has (if b && false then Some node else None) f ≡ false
met_not true node f = refl
met_not false node f = refl

both_given : (x y : Option (List PlainTree)) → (given x && given y) ≡ given (joined x y)
both_given None y = refl
both_given (Some xs) None = refl
both_given (Some xs) (Some ys) = refl

pub lies_is : (nodes : List Node) (p : Pattern) (i : ℕ) (t : PlainTree) → IsRootAt nodes i t → lies p nodes i ≡ given (subtrees p t)
lies_is nodes (Leaf n) i t h = refl
lies_is nodes (Nullary o) i (Node0 op a) (node, get, is, kids, at) = ap (λ x. has x (λ node. true)) (met_is nodes i node o 0 op 0 get is kids) ∙ go (o == op)
  where
    go : (b : Bool) → has (if b && true then Some node else None) (λ node. true) ≡ given {A = List PlainTree} (if b then Some [] else None)
    go true = refl
    go false = refl
lies_is nodes (Nullary o) i (Node1 op a t) (node, get, is, kids, at, w) = ap (λ x. has x (λ node. true)) (met_is nodes i node o 0 op 1 get is kids) ∙ met_not (o == op) node (λ node. true)
lies_is nodes (Nullary o) i (Node2 op a t u) (node, get, is, kids, at, w) = ap (λ x. has x (λ node. true)) (met_is nodes i node o 0 op 2 get is kids) ∙ met_not (o == op) node (λ node. true)
lies_is nodes (Unary' o s (more_of-Pattern p end_of-Pattern)) i (Node0 op a) (node, get, is, kids, at) =
    ap (λ x. has x (λ node. lies p nodes node.left)) (met_is nodes i node o 1 op 0 get is kids) ∙ met_not (o == op) node (λ node. lies p nodes node.left)
lies_is nodes (Unary' o s (more_of-Pattern p end_of-Pattern)) i (Node1 op a t) (node, get, is, kids, at, w) =
    ap (λ x. has x (λ node. lies p nodes node.left)) (met_is nodes i node o 1 op 1 get is kids) ∙ go (o == op) (lies_is nodes p node.left t w.1)
  where
    go : (b : Bool) → lies p nodes node.left ≡ given (subtrees p t) → has (if b && true then Some node else None) (λ node. lies p nodes node.left) ≡ given (if b then subtrees p t else None)
    go true e = e
    go false e = refl
lies_is nodes (Unary' o s (more_of-Pattern p end_of-Pattern)) i (Node2 op a t u) (node, get, is, kids, at, w) =
    ap (λ x. has x (λ node. lies p nodes node.left)) (met_is nodes i node o 1 op 2 get is kids) ∙ met_not (o == op) node (λ node. lies p nodes node.left)
lies_is nodes (Binary' o s (more_of-Pattern p end_of-Pattern) s' (more_of-Pattern q end_of-Pattern)) i (Node0 op a) (node, get, is, kids, at) =
    ap (λ x. has x (λ node. lies p nodes node.left && lies q nodes node.right)) (met_is nodes i node o 2 op 0 get is kids) ∙ met_not (o == op) node (λ node. lies p nodes node.left && lies q nodes node.right)
lies_is nodes (Binary' o s (more_of-Pattern p end_of-Pattern) s' (more_of-Pattern q end_of-Pattern)) i (Node1 op a t) (node, get, is, kids, at, w) =
    ap (λ x. has x (λ node. lies p nodes node.left && lies q nodes node.right)) (met_is nodes i node o 2 op 1 get is kids) ∙ met_not (o == op) node (λ node. lies p nodes node.left && lies q nodes node.right)
lies_is nodes (Binary' o s (more_of-Pattern p end_of-Pattern) s' (more_of-Pattern q end_of-Pattern)) i (Node2 op a t u) (node, get, is, kids, at, w) =
    ap (λ x. has x (λ node. lies p nodes node.left && lies q nodes node.right)) (met_is nodes i node o 2 op 2 get is kids) ∙ go (o == op) (lies_is nodes p node.left t w.2) (lies_is nodes q node.right u w.3)
  where
    go : (b : Bool) → lies p nodes node.left ≡ given (subtrees p t) → lies q nodes node.right ≡ given (subtrees q u)
        → has (if b && true then Some node else None) (λ node. lies p nodes node.left && lies q nodes node.right) ≡ given (if b then joined (subtrees p t) (subtrees q u) else None)
    go true e f = (λ j. e j && f j) ∙ both_given (subtrees p t) (subtrees q u)
    go false e f = refl

pub root_at : (nodes : List Node) (i : ℕ) (t : PlainTree) → IsRootAt nodes i t → (node : Node) × ((slice_get nodes i ≡ Some node) × (node.attribute ≡ attribute_of t))
root_at nodes i (Node0 op a) (node, get, is, kids, at) = (node, (get, at))
root_at nodes i (Node1 op a t) (node, get, is, kids, at, w) = (node, (get, at))
root_at nodes i (Node2 op a t u) (node, get, is, kids, at, w) = (node, (get, at))

pub fits_is : (nodes : List Node) (rule : Rule) (i : ℕ) (t : PlainTree) → IsRootAt nodes i t → fits_at rule nodes i ≡ given (fits rule t)
fits_is nodes rule i t h =
    let r = root_at nodes i t h in
    ap (λ x. has x (λ node. in_range rule.range node.attribute && lies rule.pattern nodes i)) (r.1).0
    ∙ ap (λ x. in_range rule.range x && lies rule.pattern nodes i) (r.1).1 ∙ go (in_range rule.range (attribute_of t)) (lies_is nodes rule.pattern i t h)
  where
    go : (b : Bool) → lies rule.pattern nodes i ≡ given (subtrees rule.pattern t) → (b && lies rule.pattern nodes i) ≡ given (if b then subtrees rule.pattern t else None)
    go true e = e
    go false e = refl

-- the subtrees, where the rule fits
pub fits_some : (nodes : List Node) (rule : Rule) (i : ℕ) (t : PlainTree) → IsRootAt nodes i t → fits_at rule nodes i ≡ true → (ts : List PlainTree) × ((fits rule t ≡ Some ts) × (subtrees rule.pattern t ≡ Some ts))
fits_some nodes rule i t h e = go (in_range rule.range (attribute_of t)) (subtrees rule.pattern t) (sym (fits_is nodes rule i t h) ∙ e)
  where
    go : (b : Bool) (o : Option (List PlainTree)) → given (if b then o else None) ≡ true → (ts : List PlainTree) × (((if b then o else None) ≡ Some ts) × (o ≡ Some ts))
    go true (Some ts) e = (ts, (refl, refl))
    go true None e = cc
    go false o e = cc

pub fits_subtrees : (rule : Rule) (t : PlainTree) (ts : List PlainTree) → fits rule t ≡ Some ts → subtrees rule.pattern t ≡ Some ts
fits_subtrees rule t ts h = tested (in_range rule.range (attribute_of t)) h
  where
    tested : (b : Bool) → (if b then subtrees rule.pattern t else None) ≡ Some ts → subtrees rule.pattern t ≡ Some ts
    tested true h = h
    tested false h = cc
