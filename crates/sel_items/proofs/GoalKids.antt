-- What the kids of a pattern cost by the kids' item sets.
use Rattle.std.proofs.Common.{◌≡◌, ℕ, ◌+◌, Bool, true, false, ◌==◌, if◌then◌else◌, List, [], ◌∷◌, ◌++◌, length, refl, ap, subst, sym, ◌∙◌, Option, Some, None}
use Rattle.sel_grammar.specs.declared.grammar.Grammar.{Grammar}
use Rattle.sel_grammar.specs.declared.grammar.Pattern.{Pattern, Leaf, Nullary, Unary', Binary', end_of-Pattern, more_of-Pattern}
use Rattle.sel_grammar.specs.Costs.{Cost, no_cost, ◌⊕◌}
use Rattle.sel_grammar.proofs.CostLaws.{same_sums, sum_none, sum_four}
use Rattle.sel_grammar.specs.PlainTrees.{PlainTree, Node0, Node1, Node2}
use Rattle.sel_grammar.specs.Fits.{leaves, subtrees, joined}
use Rattle.sel_grammar.specs.Derivations.{Derivations, no_more, more, DeriveAll, cost, costs}
use Rattle.sel_grammar.specs.Firsts.{AllFirst}
use Rattle.sel_normal.specs.declared.normal.Body.TheVariants.{Operator}
use Rattle.sel_normal.specs.Forms.{parts, head, body}
use Rattle.sel_items.specs.declared.items.Item.{Item}
use Rattle.sel_items.specs.declared.items.Items.{Items}
use Rattle.sel_items.specs.Entries.{ItemRow, item_at}
use Rattle.sel_items.specs.Follows.{item_cost, sum_of_both, cost_of_kids}
use Rattle.sel_normal.specs.Cuts.{HeadAt, BodyAt, IsOperatorPart}
use Rattle.sel_items.proofs.Meanings.{EntryMeans, PartCosts, GoalsMean, KidsGoals}
use Rattle.sel_items.proofs.Meanings.{kid_trees, operator_of}
use Rattle.sel_normal.proofs.Steps.{some_same, some_none}
use Rattle.sel_grammar.proofs.Kids.{both_kids, costs-both, AllFirst-both, DeriveAll-split}
use Rattle.sel_grammar.proofs.Subtrees.{subtrees_long}

abbrev pub op_of : Pattern → ℕ
op_of (Leaf n) = 0
op_of (Nullary op) = op
op_of (Unary' op s p) = op
op_of (Binary' op s p s' q) = op

abbrev pub first_kid : ℕ → Pattern → Option ℕ
first_kid k (Leaf n) = None
first_kid k (Nullary op) = None
first_kid k (Unary' op s (more_of-Pattern p end_of-Pattern)) = Some (head k p)
first_kid k (Binary' op s (more_of-Pattern p end_of-Pattern) s' (more_of-Pattern q end_of-Pattern)) = Some (head k p)

abbrev pub second_kid : ℕ → Pattern → Option ℕ
second_kid k (Leaf n) = None
second_kid k (Nullary op) = None
second_kid k (Unary' op s (more_of-Pattern p end_of-Pattern)) = None
second_kid k (Binary' op s (more_of-Pattern p end_of-Pattern) s' (more_of-Pattern q end_of-Pattern)) = Some (head (k + length (parts p)) q)

pub body_is : (k : ℕ) (test : Option ℕ) (p : Pattern) → IsOperatorPart p → body k test p ≡ Operator (op_of p) (first_kid k p) (second_kid k p) test
body_is k test (Leaf n) h = absurd (h n refl)
body_is k test (Nullary op) h = refl
body_is k test (Unary' op s (more_of-Pattern p end_of-Pattern)) h = refl
body_is k test (Binary' op s (more_of-Pattern p end_of-Pattern) s' (more_of-Pattern q end_of-Pattern)) h = refl

module _ (g : Grammar) where
  leaf_known : (n : ℕ) (t : PlainTree) (shift : Cost) (o : Option Item) → EntryMeans g n t shift o → PartCosts g (Leaf n) t shift (item_cost o)
  leaf_known n t shift None h = λ ts e es all. one es (subst (λ x. DeriveAll g es (n ∷ []) x) (sym (some_same e)) all)
    where
      one : (es : Derivations) → DeriveAll g es (n ∷ []) (t ∷ []) → ⊥
      one no_more w = w
      one (more e es) w = h e w.0
  leaf_known n t shift (Some item) (d, f, c, r) = record { under = t ∷ []; lies = refl; kids = more d no_more; firsts = (f, tt); is = sym (sum_none (cost g d)) ∙ c }

  pub head_known : (t : PlainTree) (shift : Cost) (row : ItemRow) → GoalsMean g t shift row → (k : ℕ) (p : Pattern) → HeadAt g k p → PartCosts g p t shift (item_cost (item_at row (head k p)))
  head_known t shift row m k (Leaf n) h = leaf_known n t shift (item_at row n) (m.symbols n h)
  head_known t shift row m k (Nullary op) (j, e, at) = subst (λ x. PartCosts g (Nullary op) t shift (item_cost (item_at row x))) (sym e) (m.parts j (Nullary op) at)
  head_known t shift row m k (Unary' op s (more_of-Pattern p end_of-Pattern)) (j, e, at) =
      subst (λ x. PartCosts g (Unary' op s (more_of-Pattern p end_of-Pattern)) t shift (item_cost (item_at row x))) (sym e) (m.parts j (Unary' op s (more_of-Pattern p end_of-Pattern)) at)
  head_known t shift row m k (Binary' op s (more_of-Pattern p end_of-Pattern) s' (more_of-Pattern q end_of-Pattern)) (j, e, at) =
      subst (λ x. PartCosts g (Binary' op s (more_of-Pattern p end_of-Pattern) s' (more_of-Pattern q end_of-Pattern)) t shift (item_cost (item_at row x))) (sym e) (m.parts j (Binary' op s (more_of-Pattern p end_of-Pattern) s' (more_of-Pattern q end_of-Pattern)) at)

  -- where a pattern's subtrees are nowhere
  nowhere : (p : Pattern) (t : PlainTree) (shift : Cost) (b : Bool) → subtrees p t ≡ None → PartCosts g p t shift (if b then None else None)
  nowhere p t shift true h = λ ts e es all. some_none (sym e ∙ h)
  nowhere p t shift false h = λ ts e es all. some_none (sym e ∙ h)

  lift_unary : (whole p : Pattern) (t u : PlainTree) (shift : Cost) (b : Bool) (o : Option Cost) → subtrees whole t ≡ (if b then subtrees p u else None) → leaves whole ≡ leaves p
      → PartCosts g p u shift o → PartCosts g whole t shift (if b then o else None)
  lift_unary whole p t u shift false o lies same h = λ ts e es all. some_none (sym e ∙ lies)
  lift_unary whole p t u shift true None lies same h = λ ts e es all. h ts (sym lies ∙ e) es (subst (λ ns. DeriveAll g es ns ts) same all)
  lift_unary whole p t u shift true (Some c) lies same h = record {
    under = h.under;
    lies = lies ∙ h.lies;
    kids = h.kids;
    firsts = subst (λ ns. AllFirst g h.kids ns h.under) (sym same) h.firsts;
    is = h.is;
  }

  joined_parts : (x y : Option (List PlainTree)) (ts : List PlainTree) → joined x y ≡ Some ts → (us vs : List PlainTree) × (x ≡ Some us) × (y ≡ Some vs) × (ts ≡ us ++ vs)
  joined_parts None y ts h = absurd (some_none (sym h))
  joined_parts (Some us) None ts h = absurd (some_none (sym h))
  joined_parts (Some us) (Some vs) ts h = (us, vs, refl, refl, sym (some_same h))

  split_kids : (whole p q : Pattern) (t u v : PlainTree) → subtrees whole t ≡ joined (subtrees p u) (subtrees q v) → leaves whole ≡ leaves p ++ leaves q → (ts : List PlainTree) → subtrees whole t ≡ Some ts → (es : Derivations) → DeriveAll g es (leaves whole) ts
      → ((us : List PlainTree) × (subtrees p u ≡ Some us) × ((ds : Derivations) × DeriveAll g ds (leaves p) us)) × ((vs : List PlainTree) × (subtrees q v ≡ Some vs) × ((ds : Derivations) × DeriveAll g ds (leaves q) vs))
  split_kids whole p q t u v lies same ts e es all =
      let j = joined_parts (subtrees p u) (subtrees q v) ts (sym lies ∙ e) in
      let w : DeriveAll g es (leaves p ++ leaves q) (j.0 ++ j.1) = subst (λ ns. DeriveAll g es ns (j.0 ++ j.1)) same (subst (λ x. DeriveAll g es (leaves whole) x) j.4 all) in
      let s = DeriveAll-split g es (leaves p) (leaves q) j.0 j.1 (subtrees_long p u j.0 j.2) w in
      ((j.0, j.2, s.0), (j.1, j.3, s.1))

  lift_binary : (whole p q : Pattern) (t u v : PlainTree) (x y shift : Cost) → shift ≡ x ⊕ y → (b : Bool) (o r : Option Cost) → subtrees whole t ≡ (if b then joined (subtrees p u) (subtrees q v) else None) → leaves whole ≡ leaves p ++ leaves q
      → PartCosts g p u x o → PartCosts g q v y r → PartCosts g whole t shift (if b then sum_of_both o r else None)
  lift_binary whole p q t u v x y shift is false o r lies same h k = λ ts e es all. some_none (sym e ∙ lies)
  lift_binary whole p q t u v x y shift is true None r lies same h k = λ ts e es all. let s = (split_kids whole p q t u v lies same ts e es all).0 in h s.0 s.1 (s.2).0 (s.2).1
  lift_binary whole p q t u v x y shift is true (Some a) None lies same h k = λ ts e es all. let s = (split_kids whole p q t u v lies same ts e es all).1 in k s.0 s.1 (s.2).0 (s.2).1
  lift_binary whole p q t u v x y shift is true (Some a) (Some b) lies same h k = record {
    under = h.under ++ k.under;
    lies = lies ∙ ap (λ o. joined o (subtrees q v)) h.lies ∙ ap (joined (Some (h.under))) k.lies;
    kids = both_kids h.kids k.kids;
    firsts = subst (λ ns. AllFirst g (both_kids h.kids k.kids) ns (h.under ++ k.under)) (sym same) (AllFirst-both g h.kids k.kids (leaves p) (leaves q) h.under k.under h.firsts k.firsts);
    is = costs-both g h.kids k.kids ∙ same_sums (costs g h.kids) (x ⊕ a) (costs g k.kids) (y ⊕ b) h.is k.is ∙ sum_four x a y b ∙ ap (λ z. z ⊕ (a ⊕ b)) (sym is);
  }

  -- an operator pattern's best kids by the kids' item sets
  pub pattern_known : (p : Pattern) (k : ℕ) (t : PlainTree) (shift : Cost) (is : List Items) → IsOperatorPart p → BodyAt g k p → KidsGoals g (kid_trees t) shift is
      → PartCosts g p t shift (if op_of p == operator_of t then cost_of_kids (first_kid k p) (second_kid k p) is else None)
  pattern_known (Leaf n) k t shift is h b m = absurd (h n refl)
  pattern_known (Nullary op) k (Node0 o a) shift [] h b m = go (op == o) refl
    where
      go : (c : Bool) → (op == o) ≡ c → PartCosts g (Nullary op) (Node0 o a) shift (if c then Some no_cost else None)
      go true e = record { under = []; lies = ap (λ c. if c then Some [] else None) e; kids = no_more; firsts = tt; is = sum_none no_cost ∙ ap (λ z. z ⊕ no_cost) (sym m) }
      go false e = λ ts f es all. some_none (sym f ∙ ap (λ c. if c then Some [] else None) e)
  pattern_known (Nullary op) k (Node0 o a) shift (i ∷ is) h b m = absurd m
  pattern_known (Nullary op) k (Node1 o a t) shift [] h b m = absurd m
  pattern_known (Nullary op) k (Node1 o a t) shift (i ∷ is) h b m = nowhere (Nullary op) (Node1 o a t) shift (op == o) refl
  pattern_known (Nullary op) k (Node2 o a t u) shift [] h b m = absurd m
  pattern_known (Nullary op) k (Node2 o a t u) shift (i ∷ is) h b m = nowhere (Nullary op) (Node2 o a t u) shift (op == o) refl
  pattern_known (Unary' op s (more_of-Pattern p end_of-Pattern)) k (Node0 o a) shift [] h b m = nowhere (Unary' op s (more_of-Pattern p end_of-Pattern)) (Node0 o a) shift (op == o) refl
  pattern_known (Unary' op s (more_of-Pattern p end_of-Pattern)) k (Node0 o a) shift (i ∷ is) h b m = absurd m
  pattern_known (Unary' op s (more_of-Pattern p end_of-Pattern)) k (Node1 o a t) shift [] h b m = absurd m
  pattern_known (Unary' op s (more_of-Pattern p end_of-Pattern)) k (Node1 o a t) shift (i ∷ []) h b m =
      lift_unary (Unary' op s (more_of-Pattern p end_of-Pattern)) p (Node1 o a t) t shift (op == o) (item_cost (item_at i.entries (head k p))) refl refl (head_known t shift i.entries m k p b)
  pattern_known (Unary' op s (more_of-Pattern p end_of-Pattern)) k (Node1 o a t) shift (i ∷ j ∷ is) h b m = absurd m
  pattern_known (Unary' op s (more_of-Pattern p end_of-Pattern)) k (Node2 o a t u) shift [] h b m = absurd m
  pattern_known (Unary' op s (more_of-Pattern p end_of-Pattern)) k (Node2 o a t u) shift (i ∷ []) h b m = absurd m
  pattern_known (Unary' op s (more_of-Pattern p end_of-Pattern)) k (Node2 o a t u) shift (i ∷ j ∷ is) h b m = nowhere (Unary' op s (more_of-Pattern p end_of-Pattern)) (Node2 o a t u) shift (op == o) refl
  pattern_known (Binary' op s (more_of-Pattern p end_of-Pattern) s' (more_of-Pattern q end_of-Pattern)) k (Node0 o a) shift [] h b m =
      nowhere (Binary' op s (more_of-Pattern p end_of-Pattern) s' (more_of-Pattern q end_of-Pattern)) (Node0 o a) shift (op == o) refl
  pattern_known (Binary' op s (more_of-Pattern p end_of-Pattern) s' (more_of-Pattern q end_of-Pattern)) k (Node0 o a) shift (i ∷ is) h b m = absurd m
  pattern_known (Binary' op s (more_of-Pattern p end_of-Pattern) s' (more_of-Pattern q end_of-Pattern)) k (Node1 o a t) shift [] h b m = absurd m
  pattern_known (Binary' op s (more_of-Pattern p end_of-Pattern) s' (more_of-Pattern q end_of-Pattern)) k (Node1 o a t) shift (i ∷ []) h b m =
      nowhere (Binary' op s (more_of-Pattern p end_of-Pattern) s' (more_of-Pattern q end_of-Pattern)) (Node1 o a t) shift (op == o) refl
  pattern_known (Binary' op s (more_of-Pattern p end_of-Pattern) s' (more_of-Pattern q end_of-Pattern)) k (Node1 o a t) shift (i ∷ j ∷ is) h b m = absurd m
  pattern_known (Binary' op s (more_of-Pattern p end_of-Pattern) s' (more_of-Pattern q end_of-Pattern)) k (Node2 o a t u) shift [] h b m = absurd m
  pattern_known (Binary' op s (more_of-Pattern p end_of-Pattern) s' (more_of-Pattern q end_of-Pattern)) k (Node2 o a t u) shift (i ∷ []) h b m = absurd m
  pattern_known (Binary' op s (more_of-Pattern p end_of-Pattern) s' (more_of-Pattern q end_of-Pattern)) k (Node2 o a t u) shift (i ∷ j ∷ []) h b (x, y, e, m, n) =
      lift_binary (Binary' op s (more_of-Pattern p end_of-Pattern) s' (more_of-Pattern q end_of-Pattern)) p q (Node2 o a t u) t u x y shift e (op == o)
      (item_cost (item_at i.entries (head k p))) (item_cost (item_at j.entries (head (k + length (parts p)) q))) refl refl
      (head_known t x i.entries m k p b.0) (head_known u y j.entries n (k + length (parts p)) q b.1)
  pattern_known (Binary' op s (more_of-Pattern p end_of-Pattern) s' (more_of-Pattern q end_of-Pattern)) k (Node2 o a t u) shift (i ∷ j ∷ l ∷ is) h b m = absurd m
