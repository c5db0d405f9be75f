-- A price root for the best kids.
use Rattle.std.proofs.Common.{◌≡◌, ℕ, ◌+◌, ◌-◌, ◌*◌, ◌<◌, ◌≤◌, ◌⊎◌, inl, inr, Bool, true, false, ◌==◌, if◌then◌else◌, List, [], ◌∷◌, ◌++◌, length, refl, ap, sym, ◌∙◌, subst, arith, Option, Some, None, slice_get, length-append}
use Rattle.std.specs.Option.{option_and_then}
use Rattle.std.proofs.lemmas.Bool.Decides.{nat_tests}
use Rattle.sel_grammar.proofs.Subtrees.{subtrees_long}
use Rattle.sel_forest.specs.Limits.{most_nodes}
use Rattle.sel_grammar.specs.declared.grammar.Grammar.{Grammar}
use Rattle.sel_grammar.specs.declared.grammar.Pattern.{Pattern, Leaf, Nullary, Unary', Binary', end_of-Pattern, more_of-Pattern}
use Rattle.sel_grammar.specs.declared.grammar.Attribute.{Attribute}
use Rattle.sqlite_items.specs.formers.boxed.Boxed.{the_former}
use mathlib.Core.Former.{this}
use Rattle.sel_grammar.specs.PlainTrees.{PlainTree, Node0, Node1, Node2, size}
use Rattle.sel_grammar.specs.Fits.{leaves, subtrees, joined}
use Rattle.sel_grammar.specs.Costs.{Cost, no_cost, ◌⊕◌}
use Rattle.sel_grammar.specs.Derivations.{Derivation, Deriv, Derivations, no_more, more, Derives, DeriveAll, cost, costs}
use Rattle.sel_grammar.proofs.CostLaws.{same_sums, sum_none}
use Rattle.sel_plain.specs.CostBounds.{capped_sum, IsUpTo, per_node}
use Rattle.sel_plain.proofs.CostBoundLaws.{capped_exact, IsUpTo-wider, IsUpTo-same, IsUpTo-sum, IsUpTo-none}
use Rattle.sel_grammar.specs.Firsts.{AllFirst}
use Rattle.sel_forest.specs.declared.forest.Node.{Node}
use Rattle.sel_plain.specs.declared.entry.Entry.{Entry}
use Rattle.sel_plain.specs.Rows.{Row, entry_at, row_at, entry_cost}
use Rattle.sel_plain.specs.Offers.{both_costs, kids_cost}
use Rattle.sel_forest.proofs.Matching.{some_same, some_none}
use Rattle.sel_base.proofs.Shared.Choices.{same_or_other}
use Rattle.sel_plain.specs.BestRows.{IsBestEntry, IsBestRow, AreBestRows}
use Rattle.sel_forest.specs.Places.{IsRootAt, met}
use Rattle.sel_grammar.proofs.Kids.{both_kids, costs-both, AllFirst-both, DeriveAll-split}

abbrev Shape : Type 0
Shape = (the_former (this {0})).Shape

-- the best kids, and what they cost at most
pub record HasKids (g : Grammar) (p : Pattern) (t : PlainTree) (c : Cost) (most : ℕ) : Type 0 where
  pub under : List PlainTree
  pub lies : subtrees p t ≡ Some under
  pub kids : Derivations
  pub firsts : AllFirst g kids (leaves p) under
  pub is : c ≡ costs g kids
  pub small : IsUpTo (per_node * most) c

abbrev pub HasNoKids : Grammar → Pattern → PlainTree → Type 0
HasNoKids g p t = (ts : List PlainTree) → subtrees p t ≡ Some ts → (es : Derivations) → DeriveAll g es (leaves p) ts → ⊥

abbrev pub IsKidsCost : Grammar → Pattern → PlainTree → ℕ → Option Cost → Type 0
IsKidsCost g p t most None = HasNoKids g p t
IsKidsCost g p t most (Some c) = HasKids g p t c most

one_kid : (g : Grammar) (es : Derivations) (n : ℕ) (t : PlainTree) → DeriveAll g es (n ∷ []) (t ∷ []) → (e : Derivation) × Derives g e n t
one_kid g no_more n t h = absurd h
one_kid g (more e es) n t h = (e, h.0)

IsKidsCost-entry : (g : Grammar) (n : ℕ) (t : PlainTree) (o : Option Entry) → IsBestEntry g n t o → IsKidsCost g (Leaf n) t (size t) (entry_cost o)
IsKidsCost-entry g n t None h =
    λ ts e es all. let k = one_kid g es n t (subst (λ x. DeriveAll g es (n ∷ []) x) (sym (some_same e)) all) in h k.0 k.1
IsKidsCost-entry g n t (Some e) h =
    let kept = (h.0).1 in
    record {
      under = t ∷ [];
      lies = refl;
      kids = more (Deriv e.rule (h.0).0) no_more;
      firsts = (kept.first, tt);
      is = kept.priced ∙ sum_none (cost g (Deriv e.rule (h.0).0));
      small = h.1;
    }

-- a node against an operator and a number of kids
met_yes : (node : Node) (op kids : ℕ) → node.operator ≡ op → node.kids ≡ kids → met (Some node) op kids ≡ Some node
met_yes node op kids h k = grind (arith, nat_tests)

met_other : (node : Node) (op kids : ℕ) → (node.operator ≡ op → ⊥) ⊎ (node.kids ≡ kids → ⊥) → met (Some node) op kids ≡ None
met_other node op kids (inl h) = grind (arith, nat_tests)
met_other node op kids (inr h) = grind (arith, nat_tests)

same_test : (a b : ℕ) → a ≡ b → (a == b) ≡ true
same_test a b h = grind (arith, nat_tests)

other_test : (a b : ℕ) → (a ≡ b → ⊥) → (a == b) ≡ false
other_test a b h = grind (arith, nat_tests)

-- below how many nodes the best kids are
abbrev pub room : Pattern → PlainTree → ℕ
room (Leaf n) t = size t
room p t = size t - 1

pub room_le : (p : Pattern) (t : PlainTree) → room p t ≤ size t
room_le (Leaf n) t = omega arith
room_le (Nullary o) t = omega arith
room_le (Unary' o s p) t = omega arith
room_le (Binary' o s p s' q) t = omega arith

lift_unary : (g : Grammar) (whole p : Pattern) (op : ℕ) (a : Attribute) (u : PlainTree) (o : Option Cost) → subtrees whole (Node1 op a u) ≡ subtrees p u → leaves whole ≡ leaves p
    → IsKidsCost g p u (room p u) o → IsKidsCost g whole (Node1 op a u) (size (Node1 op a u) - 1) o
lift_unary g whole p op a u None lies same h =
    λ ts e es all. h ts (sym lies ∙ e) es (subst (λ ns. DeriveAll g es ns ts) same all)
lift_unary g whole p op a u (Some c) lies same h = record {
  under = h.under;
  lies = lies ∙ h.lies;
  kids = h.kids;
  firsts = subst (λ ns. AllFirst g h.kids ns h.under) (sym same) h.firsts;
  is = h.is;
  small = IsUpTo-wider (per_node * room p u) _ c (let r = room_le p u in omega arith) h.small;
}

lift_binary : (g : Grammar) (whole p q : Pattern) (op : ℕ) (a : Attribute) (u v : PlainTree) (x y : Option Cost) → size (Node2 op a u v) < most_nodes + 1
    → subtrees whole (Node2 op a u v) ≡ joined (subtrees p u) (subtrees q v) → leaves whole ≡ leaves p ++ leaves q
    → IsKidsCost g p u (room p u) x → IsKidsCost g q v (room q v) y → IsKidsCost g whole (Node2 op a u v) (size (Node2 op a u v) - 1) (both_costs x y)
lift_binary g whole p q op a u v (Some b) (Some c) few lies same h k = record {
  under = h.under ++ k.under;
  lies = lies ∙ (λ i. joined (h.lies i) (k.lies i));
  kids = both_kids h.kids k.kids;
  firsts = subst (λ ns. AllFirst g (both_kids h.kids k.kids) ns (h.under ++ k.under)) (sym same)
      (AllFirst-both g h.kids k.kids (leaves p) (leaves q) h.under k.under h.firsts k.firsts);
  is = exact ∙ same_sums b (costs g h.kids) c (costs g k.kids) h.is k.is ∙ sym (costs-both g h.kids k.kids);
  small = IsUpTo-same _ (b ⊕ c) (capped_sum b c) (sym exact)
      (IsUpTo-wider (per_node * room p u + per_node * room q v) _ (b ⊕ c) (let r = room_le p u in let r' = room_le q v in omega arith)
      (IsUpTo-sum (per_node * room p u) (per_node * room q v) b c h.small k.small));
}
  where
    exact : capped_sum b c ≡ b ⊕ c
    exact = capped_exact (per_node * room p u) (per_node * room q v) b c h.small k.small (let r = room_le p u in let r' = room_le q v in omega arith)
lift_binary g whole p q op a u v None y few lies same h k = λ ts e es all. split (subtrees p u) (subtrees q v) refl refl ts (sym lies ∙ e) es (subst (λ ns. DeriveAll g es ns ts) same all)
  where
    split : (x y : Option (List PlainTree)) → subtrees p u ≡ x → subtrees q v ≡ y → (ts : List PlainTree) → joined x y ≡ Some ts → (es : Derivations) → DeriveAll g es (leaves p ++ leaves q) ts → ⊥
    split None y e f ts j es all = some_none (sym j)
    split (Some xs) None e f ts j es all = some_none (sym j)
    split (Some xs) (Some ys) e f ts j es all =
        let s = DeriveAll-split g es (leaves p) (leaves q) xs ys (subtrees_long p u xs e) (subst (λ ts. DeriveAll g es (leaves p ++ leaves q) ts) (sym (some_same j)) all) in
        h xs e (s.0).0 (s.0).1
lift_binary g whole p q op a u v (Some c) None few lies same h k = λ ts e es all. split (subtrees p u) (subtrees q v) refl refl ts (sym lies ∙ e) es (subst (λ ns. DeriveAll g es ns ts) same all)
  where
    split : (x y : Option (List PlainTree)) → subtrees p u ≡ x → subtrees q v ≡ y → (ts : List PlainTree) → joined x y ≡ Some ts → (es : Derivations) → DeriveAll g es (leaves p ++ leaves q) ts → ⊥
    split None y e f ts j es all = some_none (sym j)
    split (Some xs) None e f ts j es all = some_none (sym j)
    split (Some xs) (Some ys) e f ts j es all =
        let s = DeriveAll-split g es (leaves p) (leaves q) xs ys (subtrees_long p u xs e) (subst (λ ts. DeriveAll g es (leaves p ++ leaves q) ts) (sym (some_same j)) all) in
        k ys f (s.1).0 (s.1).1

-- no kids, where the operators differ or the numbers of kids do
no_kids : (g : Grammar) (p : Pattern) (t : PlainTree) → subtrees p t ≡ None → HasNoKids g p t
no_kids g p t h = λ ts e es all. some_none (sym e ∙ h)

if_false : {A : Type 0} (b : Bool) (x y : A) → b ≡ false → (if b then x else y) ≡ y
if_false true x y h = cc
if_false false x y h = refl

if_true : {A : Type 0} (b : Bool) (x y : A) → b ≡ true → (if b then x else y) ≡ x
if_true true x y h = refl
if_true false x y h = cc

flip : {a b : ℕ} → (a ≡ b → ⊥) → b ≡ a → ⊥
flip f h = f (sym h)

zero_one : {n : ℕ} → n ≡ 0 → n ≡ 1 → ⊥
zero_one h k = omega arith

module _ (g : Grammar) (nodes : List Node) (rows : List Row) (m : ℕ) (low : AreBestRows g nodes rows m) where
  met_at : (i op kids : ℕ) (node : Node) → slice_get nodes i ≡ Some node → met (slice_get nodes i) op kids ≡ met (Some node) op kids
  met_at i op kids node h = ap (λ x. met x op kids) h

  none_at : (i op kids : ℕ) (node : Node) (f : Node → Option Cost) → slice_get nodes i ≡ Some node → (node.operator ≡ op → ⊥) ⊎ (node.kids ≡ kids → ⊥) → option_and_then f (met (slice_get nodes i) op kids) ≡ None
  none_at i op kids node f h d = ap (option_and_then f) (met_at i op kids node h ∙ met_other node op kids d)

  some_at : (i op kids : ℕ) (node : Node) (f : Node → Option Cost) → slice_get nodes i ≡ Some node → node.operator ≡ op → node.kids ≡ kids → option_and_then f (met (slice_get nodes i) op kids) ≡ f node
  some_at i op kids node f h d e = ap (option_and_then f) (met_at i op kids node h ∙ met_yes node op kids d e)

  abbrev Good : Pattern → Type 0
  Good p = (i : ℕ) (t : PlainTree) → i ≤ m → size t < most_nodes + 1 → IsRootAt nodes i t → ((n : ℕ) → p ≡ Leaf n → IsBestRow g t (row_at rows i)) → IsKidsCost g p t (room p t) (kids_cost p nodes rows i)

  -- a pattern below an operator
  below : (p : Pattern) → Good p → (i j : ℕ) (t : PlainTree) → i ≤ m → j < i → size t < most_nodes + 1 → IsRootAt nodes j t → IsKidsCost g p t (room p t) (kids_cost p nodes rows j)
  below p good i j t le lt few at = good j t (omega arith) few at (λ n e. low j t (omega arith) at)

  mismatch : (whole : Pattern) (t : PlainTree) (i o kids most : ℕ) (node : Node) (f : Node → Option Cost) → kids_cost whole nodes rows i ≡ option_and_then f (met (slice_get nodes i) o kids)
      → slice_get nodes i ≡ Some node → (node.operator ≡ o → ⊥) ⊎ (node.kids ≡ kids → ⊥) → subtrees whole t ≡ None → IsKidsCost g whole t most (kids_cost whole nodes rows i)
  mismatch whole t i o kids most node f e get d h =
      subst (λ x. IsKidsCost g whole t most x) (sym (e ∙ none_at i o kids node f get d)) (no_kids g whole t h)

  match_is : (whole : Pattern) (t : PlainTree) (i o kids most : ℕ) (node : Node) (f : Node → Option Cost) → kids_cost whole nodes rows i ≡ option_and_then f (met (slice_get nodes i) o kids)
      → slice_get nodes i ≡ Some node → node.operator ≡ o → node.kids ≡ kids → IsKidsCost g whole t most (f node) → IsKidsCost g whole t most (kids_cost whole nodes rows i)
  match_is whole t i o kids most node f e get d k h = subst (λ x. IsKidsCost g whole t most x) (sym (e ∙ some_at i o kids node f get d k)) h

  nullary : (o i op : ℕ) (a : Attribute) (node : Node) → slice_get nodes i ≡ Some node → node.operator ≡ op → node.kids ≡ 0 → (o ≡ op) ⊎ (o ≡ op → ⊥)
      → IsKidsCost g (Nullary o) (Node0 op a) (size (Node0 op a) - 1) (kids_cost (Nullary o) nodes rows i)
  nullary o i op a node get is kids (inl e) =
      match_is (Nullary o) (Node0 op a) i o 0 (size (Node0 op a) - 1) node (λ node. Some no_cost) refl get (is ∙ sym e) kids
      (record { under = []; lies = if_true (o == op) (Some []) None (same_test o op e); kids = no_more; firsts = tt; is = refl; small = IsUpTo-none _ })
  nullary o i op a node get is kids (inr d) =
      mismatch (Nullary o) (Node0 op a) i o 0 (size (Node0 op a) - 1) node (λ node. Some no_cost) refl get (inl (λ q. d (sym q ∙ is))) (if_false (o == op) (Some []) None (other_test o op d))

  unary : (o : ℕ) (s : Shape) (p : Pattern) (i op : ℕ) (a : Attribute) (u : PlainTree) (node : Node) → Good p → i ≤ m → size (Node1 op a u) < most_nodes + 1 → slice_get nodes i ≡ Some node → node.operator ≡ op → node.kids ≡ 1
      → node.left < i → IsRootAt nodes node.left u → (o ≡ op) ⊎ (o ≡ op → ⊥)
      → IsKidsCost g (Unary' o s (more_of-Pattern p end_of-Pattern)) (Node1 op a u) (size (Node1 op a u) - 1) (kids_cost (Unary' o s (more_of-Pattern p end_of-Pattern)) nodes rows i)
  unary o s p i op a u node good le few get is kids lt root (inl e) =
      match_is (Unary' o s (more_of-Pattern p end_of-Pattern)) (Node1 op a u) i o 1 (size (Node1 op a u) - 1) node (λ node. kids_cost p nodes rows node.left) refl get (is ∙ sym e) kids
      (lift_unary g (Unary' o s (more_of-Pattern p end_of-Pattern)) p op a u (kids_cost p nodes rows node.left) (if_true (o == op) (subtrees p u) None (same_test o op e)) refl
      (below p good i node.left u le lt (omega arith) root))
  unary o s p i op a u node good le few get is kids lt root (inr d) =
      mismatch (Unary' o s (more_of-Pattern p end_of-Pattern)) (Node1 op a u) i o 1 (size (Node1 op a u) - 1) node (λ node. kids_cost p nodes rows node.left) refl get (inl (λ q. d (sym q ∙ is)))
      (if_false (o == op) (subtrees p u) None (other_test o op d))

  binary : (o : ℕ) (s s' : Shape) (p q : Pattern) (i op : ℕ) (a : Attribute) (u v : PlainTree) (node : Node) → Good p → Good q → i ≤ m → size (Node2 op a u v) < most_nodes + 1 → slice_get nodes i ≡ Some node → node.operator ≡ op → node.kids ≡ 2
      → node.left < i → node.right < i → IsRootAt nodes node.left u → IsRootAt nodes node.right v → (o ≡ op) ⊎ (o ≡ op → ⊥)
      → IsKidsCost g (Binary' o s (more_of-Pattern p end_of-Pattern) s' (more_of-Pattern q end_of-Pattern)) (Node2 op a u v) (size (Node2 op a u v) - 1) (kids_cost (Binary' o s (more_of-Pattern p end_of-Pattern) s' (more_of-Pattern q end_of-Pattern)) nodes rows i)
  binary o s s' p q i op a u v node good good' le few get is kids lt lt' root root' (inl e) =
      match_is (Binary' o s (more_of-Pattern p end_of-Pattern) s' (more_of-Pattern q end_of-Pattern)) (Node2 op a u v) i o 2 (size (Node2 op a u v) - 1) node
      (λ node. both_costs (kids_cost p nodes rows node.left) (kids_cost q nodes rows node.right)) refl get (is ∙ sym e) kids
      (lift_binary g (Binary' o s (more_of-Pattern p end_of-Pattern) s' (more_of-Pattern q end_of-Pattern)) p q op a u v (kids_cost p nodes rows node.left) (kids_cost q nodes rows node.right) few
      (if_true (o == op) (joined (subtrees p u) (subtrees q v)) None (same_test o op e)) refl
      (below p good i node.left u le lt (omega arith) root) (below q good' i node.right v le lt' (omega arith) root'))
  binary o s s' p q i op a u v node good good' le few get is kids lt lt' root root' (inr d) =
      mismatch (Binary' o s (more_of-Pattern p end_of-Pattern) s' (more_of-Pattern q end_of-Pattern)) (Node2 op a u v) i o 2 (size (Node2 op a u v) - 1) node
      (λ node. both_costs (kids_cost p nodes rows node.left) (kids_cost q nodes rows node.right)) refl get (inl (λ q. d (sym q ∙ is)))
      (if_false (o == op) (joined (subtrees p u) (subtrees q v)) None (other_test o op d))

  pub kids_cost_means : (p : Pattern) → Good p
  kids_cost_means (Leaf n) i t le few at here = IsKidsCost-entry g n t (entry_at (row_at rows i) n) (here n refl n)
  kids_cost_means (Nullary o) i (Node0 op a) le few (node, get, is, kids, at) here = nullary o i op a node get is kids (same_or_other o op)
  kids_cost_means (Nullary o) i (Node1 op a u) le few (node, get, is, kids, at, w) here =
      mismatch (Nullary o) (Node1 op a u) i o 0 (size (Node1 op a u) - 1) node (λ node. Some no_cost) refl get (inr (λ z. absurd (omega arith))) refl
  kids_cost_means (Nullary o) i (Node2 op a u v) le few (node, get, is, kids, at, w) here =
      mismatch (Nullary o) (Node2 op a u v) i o 0 (size (Node2 op a u v) - 1) node (λ node. Some no_cost) refl get (inr (λ z. absurd (omega arith))) refl
  kids_cost_means (Unary' o s (more_of-Pattern p end_of-Pattern)) i (Node0 op a) le few (node, get, is, kids, at) here =
      mismatch (Unary' o s (more_of-Pattern p end_of-Pattern)) (Node0 op a) i o 1 (size (Node0 op a) - 1) node (λ node. kids_cost p nodes rows node.left) refl get (inr (λ z. absurd (omega arith))) refl
  kids_cost_means (Unary' o s (more_of-Pattern p end_of-Pattern)) i (Node1 op a u) le few (node, get, is, kids, at, w) here =
      unary o s p i op a u node (kids_cost_means p) le few get is kids w.0 w.1 (same_or_other o op)
  kids_cost_means (Unary' o s (more_of-Pattern p end_of-Pattern)) i (Node2 op a u v) le few (node, get, is, kids, at, w) here =
      mismatch (Unary' o s (more_of-Pattern p end_of-Pattern)) (Node2 op a u v) i o 1 (size (Node2 op a u v) - 1) node (λ node. kids_cost p nodes rows node.left) refl get (inr (λ z. absurd (omega arith))) refl
  kids_cost_means (Binary' o s (more_of-Pattern p end_of-Pattern) s' (more_of-Pattern q end_of-Pattern)) i (Node0 op a) le few (node, get, is, kids, at) here =
      mismatch (Binary' o s (more_of-Pattern p end_of-Pattern) s' (more_of-Pattern q end_of-Pattern)) (Node0 op a) i o 2 (size (Node0 op a) - 1) node
      (λ node. both_costs (kids_cost p nodes rows node.left) (kids_cost q nodes rows node.right)) refl get (inr (λ z. absurd (omega arith))) refl
  kids_cost_means (Binary' o s (more_of-Pattern p end_of-Pattern) s' (more_of-Pattern q end_of-Pattern)) i (Node1 op a u) le few (node, get, is, kids, at, w) here =
      mismatch (Binary' o s (more_of-Pattern p end_of-Pattern) s' (more_of-Pattern q end_of-Pattern)) (Node1 op a u) i o 2 (size (Node1 op a u) - 1) node
      (λ node. both_costs (kids_cost p nodes rows node.left) (kids_cost q nodes rows node.right)) refl get (inr (λ z. absurd (omega arith))) refl
  kids_cost_means (Binary' o s (more_of-Pattern p end_of-Pattern) s' (more_of-Pattern q end_of-Pattern)) i (Node2 op a u v) le few (node, get, is, kids, at, w) here =
      binary o s s' p q i op a u v node (kids_cost_means p) (kids_cost_means q) le few get is kids w.0 w.1 w.2 w.3 (same_or_other o op)
