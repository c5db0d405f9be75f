-- To each derivation in the normal form there is one under the grammar: each helper's derivation falls apart into those of its part's leaves.
use Rattle.std.proofs.Common.{◌≡◌, ℕ, zero, suc, ◌+◌, ◌<◌, ◌≤◌, ◌⊎◌, inl, inr, List, [], ◌∷◌, ◌++◌, length, refl, ap, subst, sym, ◌∙◌, Option, Some, None, Bool, true, false, ◌==◌, if◌then◌else◌, slice_get, arith, append-nil}
use Rattle.std.proofs.lemmas.Option.{slice_get_within}
use Rattle.sel_base.specs.declared.range.Range.{Range}
use Rattle.sel_grammar.specs.declared.grammar.Attribute.{Attribute}
use Rattle.sel_grammar.specs.declared.grammar.Grammar.{Grammar}
use Rattle.sel_grammar.specs.declared.grammar.Rule.{Rule}
use Rattle.sel_grammar.specs.declared.grammar.Pattern.{Pattern, Leaf, Nullary, Unary', Binary', end_of-Pattern, more_of-Pattern}
use Rattle.sel_grammar.specs.Costs.{Cost, no_cost, ◌⊕◌, paid, price}
use Rattle.sel_grammar.specs.PlainTrees.{PlainTree, Node0, Node1, Node2, attribute_of}
use Rattle.sel_grammar.specs.Fits.{leaves, joined, subtrees, fits, rule_at, in_range}
use Rattle.sel_grammar.specs.Derivations.{Derivation, Deriv, Derivations, no_more, more, Derives, DeriveAll, rule_cost, cost, costs, list, lists}
use Rattle.sel_grammar.specs.Lawful.{IsLawful, IsRuleOf}
use Rattle.sel_grammar.proofs.CostLaws.{sum_none, sum_before, sum_assoc}
use Rattle.sel_grammar.proofs.Kids.{both_kids, costs-both, lists-both}
use Rattle.sel_normal.specs.declared.normal.Body.TheVariants.{Operator}
use Rattle.sel_normal.specs.declared.normal.NormalRule.{NormalRule}
use Rattle.sel_normal.specs.NormalForms.{NormalForm, normal_at}
use Rattle.sel_normal.specs.Forms.{parts, places, head, body, helper_rule, test_number, IsFormOf}
use Rattle.sel_normal.specs.Seen.{seen_kids, seen_pattern, seen_range, range_at, seen_rule, seen}
use Rattle.sel_normal.specs.Cuts.{HeadAt, BodyAt, IsOperatorPart, CutUser, CutHelper, IsCut}
use Rattle.sel_normal.specs.Matches.{without_helpers}
use Rattle.sel_normal.proofs.Steps.{some_same, some_none, within_rules, rule_left}
use Rattle.sel_normal.proofs.Seeing.{leaves_one, leaves_two, only_one, only_two, seen_back, fits_both, both_fit}
use Rattle.sel_normal.proofs.Ups.{kept_both, kept_user, left_out, range_seen, rule_lawful}

DeriveAll-both : (g : Grammar) (ds es : Derivations) (ns ms : List ℕ) (ts us : List PlainTree) → DeriveAll g ds ns ts → DeriveAll g es ms us → DeriveAll g (both_kids ds es) (ns ++ ms) (ts ++ us)
DeriveAll-both g no_more es [] ms [] us h k = k
DeriveAll-both g no_more es [] ms (t ∷ ts) us h k = absurd h
DeriveAll-both g no_more es (n ∷ ns) ms ts us h k = absurd h
DeriveAll-both g (more d ds) es [] ms ts us h k = absurd h
DeriveAll-both g (more d ds) es (n ∷ ns) ms [] us h k = absurd h
DeriveAll-both g (more d ds) es (n ∷ ns) ms (t ∷ ts) us h k = (h.0, DeriveAll-both g ds es ns ms ts us h.1 k)

-- the parts with operators stand for their places alone
place_of : (g : Grammar) (k : ℕ) (p : Pattern) → HeadAt g k p → ((n : ℕ) × (p ≡ Leaf n) × (n < length g.nonterminals)) ⊎ ((j : ℕ) × (head k p ≡ length g.nonterminals + j) × (slice_get (places g.rules) j ≡ Some p))
place_of g k (Leaf n) at = inl (n, refl, at)
place_of g k (Nullary op) at = inr (at.0, at.1, at.2)
place_of g k (Unary' op z (more_of-Pattern p end_of-Pattern)) at = inr (at.0, at.1, at.2)
place_of g k (Binary' op z (more_of-Pattern p end_of-Pattern) z' (more_of-Pattern q end_of-Pattern)) at = inr (at.0, at.1, at.2)

-- the kids of an operator over no, one and two nonterminals
kid_of : (s : Grammar) (es : Derivations) (n : ℕ) (t : PlainTree) → DeriveAll s es (n ∷ []) (t ∷ []) → (e : Derivation) × (es ≡ more e no_more) × Derives s e n t
kid_of s no_more n t h = absurd h
kid_of s (more e no_more) n t h = (e, refl, h.0)
kid_of s (more e (more f fs)) n t h = absurd h.1

kids_two : (s : Grammar) (es : Derivations) (n m : ℕ) (t u : PlainTree) → DeriveAll s es (n ∷ m ∷ []) (t ∷ u ∷ []) → (e f : Derivation) × (es ≡ more e (more f no_more)) × Derives s e n t × Derives s f m u
kids_two s no_more n m t u h = absurd h
kids_two s (more e no_more) n m t u h = absurd h.1
kids_two s (more e (more f no_more)) n m t u h = (e, f, refl, h.0, (h.1).0)
kids_two s (more e (more f (more x xs))) n m t u h = absurd (h.1).1

module _ (g : Grammar) (normal : NormalForm) (h : IsLawful g) (form : IsFormOf g normal) (is_cut : IsCut g normal) where
  abbrev s : Grammar
  s = seen normal

  abbrev kept : List ℕ → List ℕ
  kept = without_helpers normal

  -- derivations from the leaves of the part, in place of those that cost and list the same
  pub record FallsApart (p : Pattern) (t : PlainTree) (c : Cost) (l : List ℕ) : Type 0 where
    pub under : List PlainTree
    pub lies : subtrees p t ≡ Some under
    pub kids : Derivations
    pub derive : DeriveAll g kids (leaves p) under
    pub costs_are : costs g kids ≡ c
    pub lists_are : lists kids ≡ kept l

  abbrev Falls : Derivation → Type 0
  Falls e = (k : ℕ) (p : Pattern) (t : PlainTree) → HeadAt g k p → Derives s e (head k p) t → FallsApart p t (cost s e) (list e)

  abbrev AllFall : Derivations → Type 0
  AllFall no_more = Unit {0}
  AllFall (more e es) = Falls e × AllFall es

  same_ends : (p : Pattern) (t : PlainTree) (c c' : Cost) (l l' : List ℕ) → c ≡ c' → kept l ≡ kept l' → FallsApart p t c l → FallsApart p t c' l'
  same_ends p t c c' l l' e f a = record { under = a.under; lies = a.lies; kids = a.kids; derive = a.derive; costs_are = a.costs_are ∙ e; lists_are = a.lists_are ∙ f }

  -- the parts of an operator's kids, put together
  one_falls : (op : ℕ) (whole p : Pattern) (o : ℕ) (a : Attribute) (t : PlainTree) (e : Derivation) → ((b : Bool) → (op == o) ≡ b → subtrees whole (Node1 o a t) ≡ (if b then subtrees p t else None)) → leaves whole ≡ leaves p → (op == o) ≡ true
      → FallsApart p t (cost s e) (list e) → FallsApart whole (Node1 o a t) (costs s (more e no_more)) (lists (more e no_more))
  one_falls op whole p o a t e lies same here f = record {
    under = f.under;
    lies = lies true here ∙ f.lies;
    kids = f.kids;
    derive = subst (λ ns. DeriveAll g f.kids ns f.under) (sym same) f.derive;
    costs_are = f.costs_are ∙ sum_none (cost s e);
    lists_are = f.lists_are ∙ ap kept (sym (append-nil (list e)));
  }

  two_fall : (op : ℕ) (whole p q : Pattern) (o : ℕ) (a : Attribute) (t u : PlainTree) (d e : Derivation) → ((b : Bool) → (op == o) ≡ b → subtrees whole (Node2 o a t u) ≡ (if b then joined (subtrees p t) (subtrees q u) else None))
      → leaves whole ≡ leaves p ++ leaves q → (op == o) ≡ true → FallsApart p t (cost s d) (list d) → FallsApart q u (cost s e) (list e)
      → FallsApart whole (Node2 o a t u) (costs s (more d (more e no_more))) (lists (more d (more e no_more)))
  two_fall op whole p q o a t u d e lies same here f k = record {
    under = f.under ++ k.under;
    lies = lies true here ∙ (λ i. joined (f.lies i) (k.lies i));
    kids = both_kids f.kids k.kids;
    derive = subst (λ ns. DeriveAll g (both_kids f.kids k.kids) ns (f.under ++ k.under)) (sym same) (DeriveAll-both g f.kids k.kids (leaves p) (leaves q) f.under k.under f.derive k.derive);
    costs_are = costs-both g f.kids k.kids ∙ (λ i. f.costs_are i ⊕ k.costs_are i) ∙ ap (λ x. cost s d ⊕ x) (sum_none (cost s e));
    lists_are = lists-both f.kids k.kids ∙ (λ i. f.lists_are i ++ k.lists_are i) ∙ sym (kept_both normal (list d) (list e)) ∙ ap kept (ap (λ l. list d ++ l) (sym (append-nil (list e))));
  }

  -- the kids of a normal rule fall apart into those of the pattern that it was cut from
  body_falls : (p : Pattern) (k : ℕ) (test : Option ℕ) (t : PlainTree) (es : Derivations) (us : List PlainTree) → BodyAt g k p → AllFall es → subtrees (seen_pattern (body k test p)) t ≡ Some us
      → DeriveAll s es (leaves (seen_pattern (body k test p))) us → FallsApart p t (costs s es) (lists es)
  body_falls (Leaf n) k test t es us at falls lies all =
      let x = kid_of s es n t (subst (λ y. DeriveAll s es (n ∷ []) y) (sym (some_same lies)) all) in
      let f = (subst AllFall x.1 falls).0 k (Leaf n) t at x.2 in
      same_ends (Leaf n) t (cost s x.0) (costs s es) (list x.0) (lists es) (sum_none (cost s x.0) ∙ ap (costs s) (sym x.1)) (ap kept (sym (append-nil (list x.0)) ∙ ap lists (sym x.1))) f
  body_falls (Nullary op) k test t no_more us at falls lies all = record { under = us; lies = lies; kids = no_more; derive = none us all; costs_are = refl; lists_are = refl }
    where
      none : (us : List PlainTree) → DeriveAll s no_more [] us → DeriveAll g no_more [] us
      none [] a = a
      none (u ∷ us) a = a
  body_falls (Nullary op) k test t (more e es) us at falls lies all = absurd (none us all)
    where
      none : (us : List PlainTree) → DeriveAll s (more e es) [] us → ⊥
      none [] a = a
      none (u ∷ us) a = a
  body_falls (Unary' op z (more_of-Pattern p end_of-Pattern)) k test t es us at falls lies all =
      let o = only_one op (head k p) t us lies in
      let all' = subst (λ ns. DeriveAll s es ns us) (leaves_one op (head k p)) all in
      let x = kid_of s es (head k p) o.2 (subst (λ y. DeriveAll s es (head k p ∷ []) y) o.5 all') in
      let f = (subst AllFall x.1 falls).0 k p o.2 at x.2 in
      let whole : Pattern = Unary' op z (more_of-Pattern p end_of-Pattern) in
      subst (λ y. FallsApart whole y (costs s es) (lists es)) (sym o.3)
      (subst (λ y. FallsApart whole (Node1 o.0 o.1 o.2) (costs s y) (lists y)) (sym x.1)
      (one_falls op whole p o.0 o.1 o.2 x.0 (λ b e. ap (λ c. if c then subtrees p o.2 else None) e) refl o.4 f))
  body_falls (Binary' op z (more_of-Pattern p end_of-Pattern) z' (more_of-Pattern q end_of-Pattern)) k test t es us at falls lies all =
      let m : ℕ = head (k + length (parts p)) q in
      let o = only_two op (head k p) m t us lies in
      let all' = subst (λ ns. DeriveAll s es ns us) (leaves_two op (head k p) m) all in
      let x = kids_two s es (head k p) m o.2 o.3 (subst (λ y. DeriveAll s es (head k p ∷ m ∷ []) y) o.6 all') in
      let fs = subst AllFall x.2 falls in
      let whole : Pattern = Binary' op z (more_of-Pattern p end_of-Pattern) z' (more_of-Pattern q end_of-Pattern) in
      subst (λ y. FallsApart whole y (costs s es) (lists es)) (sym o.4)
      (subst (λ y. FallsApart whole (Node2 o.0 o.1 o.2 o.3) (costs s y) (lists y)) (sym x.2)
      (two_fall op whole p q o.0 o.1 o.2 o.3 x.0 x.1 (λ b e. ap (λ c. if c then joined (subtrees p o.2) (subtrees q o.3) else None) e) refl o.5
      (fs.0 k p o.2 at.0 x.3) ((fs.1).0 (k + length (parts p)) q o.3 at.1 x.4)))

  user_falls : (q : ℕ) (es : Derivations) (rule : Rule) (number test : ℕ) (t : PlainTree) (us : List PlainTree) → AllFall es → rule_at g q ≡ Some rule → BodyAt g number rule.pattern → range_at normal.tests (test_number test rule.range) ≡ rule.range
      → (nr : NormalRule) → nr ≡ record { left = rule.left; cost = rule.cost; body = body number (test_number test rule.range) rule.pattern } → rule_at s q ≡ Some (seen_rule normal.tests nr) → fits (seen_rule normal.tests nr) t ≡ Some us
      → DeriveAll s es (leaves (seen_pattern nr.body)) us → FallsApart (Leaf rule.left) t (cost s (Deriv q es)) (list (Deriv q es))
  user_falls q es rule number test t us falls at below range nr is there fit all =
      let f = fits_both (seen_rule normal.tests nr) t us fit in
      let tested : seen_range normal.tests nr.body ≡ rule.range =
      ap (λ (x : NormalRule). seen_range normal.tests x.body) is ∙ range_seen g normal h form is_cut rule number test (rule_lawful g normal h form is_cut q rule at) range in
      let lies : subtrees (seen_pattern (body number (test_number test rule.range) rule.pattern)) t ≡ Some us = ap (λ (x : NormalRule). subtrees (seen_pattern x.body) t) (sym is) ∙ f.1 in
      let a = body_falls rule.pattern number (test_number test rule.range) t es us below falls lies (subst (λ (x : NormalRule). DeriveAll s es (leaves (seen_pattern x.body)) us) is all) in
      let d : Derivation = Deriv q a.kids in
      let few = within_rules g q rule at in
      let users = form.user_rules in
      record {
        under = t ∷ [];
        lies = refl;
        kids = more d no_more;
        derive = ((rule, at, refl, (a.under, both_fit rule t a.under (ap (λ o. in_range o (attribute_of t)) (sym tested) ∙ f.0) a.lies, a.derive)), tt);
        costs_are = sym (sum_none (cost g d)) ∙ ap (λ o. rule_cost o ⊕ costs g a.kids) at ∙ ap (λ x. price rule ⊕ x) a.costs_are
            ∙ ap (λ (x : NormalRule). paid x.cost ⊕ costs s es) (sym is) ∙ ap (λ o. rule_cost o ⊕ costs s es) (sym there);
        lists_are = append-nil (list d) ∙ ap (λ l. q ∷ l) a.lists_are ∙ sym (kept_user normal q (lists es) (omega arith));
      }

  helper_falls : (q : ℕ) (es : Derivations) (j : ℕ) (part : Pattern) (t : PlainTree) (us : List PlainTree) → AllFall es → BodyAt g (length g.nonterminals + j + 1) part → q ≡ length g.rules + j + 1
      → (nr : NormalRule) → nr ≡ helper_rule (length g.nonterminals + j) part → rule_at s q ≡ Some (seen_rule normal.tests nr) → fits (seen_rule normal.tests nr) t ≡ Some us
      → DeriveAll s es (leaves (seen_pattern nr.body)) us → FallsApart part t (cost s (Deriv q es)) (list (Deriv q es))
  helper_falls q es j part t us falls below number nr is there fit all =
      let f = fits_both (seen_rule normal.tests nr) t us fit in
      let k : ℕ = length g.nonterminals + j + 1 in
      let lies : subtrees (seen_pattern (body k None part)) t ≡ Some us = ap (λ (x : NormalRule). subtrees (seen_pattern x.body) t) (sym is) ∙ f.1 in
      let a = body_falls part k None t es us below falls lies (subst (λ (x : NormalRule). DeriveAll s es (leaves (seen_pattern x.body)) us) is all) in
      let users = form.user_rules in
      same_ends part t (costs s es) (cost s (Deriv q es)) (lists es) (list (Deriv q es))
      (sum_before (costs s es) ∙ ap (λ (x : NormalRule). paid x.cost ⊕ costs s es) (sym is) ∙ ap (λ o. rule_cost o ⊕ costs s es) (sym there))
      (sym (left_out normal q (lists es) (omega arith))) a

  rule_falls : (q : ℕ) (es : Derivations) (k : ℕ) (p : Pattern) (t : PlainTree) (us : List PlainTree) (nr : NormalRule) → AllFall es → HeadAt g k p → rule_at s q ≡ Some (seen_rule normal.tests nr) → nr.left ≡ head k p
      → fits (seen_rule normal.tests nr) t ≡ Some us → DeriveAll s es (leaves (seen_pattern nr.body)) us
      → ((rule : Rule) × (rule_at g q ≡ Some rule) × CutUser g normal rule nr)
      ⊎ ((j : ℕ) × (part : Pattern) × (slice_get (places g.rules) j ≡ Some part) × (q ≡ length g.rules + j + 1) × CutHelper g j part nr)
      → ((n : ℕ) × (p ≡ Leaf n) × (n < length g.nonterminals)) ⊎ ((j : ℕ) × (head k p ≡ length g.nonterminals + j) × (slice_get (places g.rules) j ≡ Some p))
      → FallsApart p t (cost s (Deriv q es)) (list (Deriv q es))
  rule_falls q es k p t us nr falls at there left fit all (inl (rule, here, cut)) (inl (n, is, low)) =
      let same : rule.left ≡ n = ap (λ (x : NormalRule). x.left) (sym cut.is) ∙ left ∙ ap (head k) is in
      subst (λ y. FallsApart y t (cost s (Deriv q es)) (list (Deriv q es))) (ap Leaf same ∙ sym is)
      (user_falls q es rule cut.number cut.test t us falls here cut.below cut.range nr cut.is there fit all)
  rule_falls q es k p t us nr falls at there left fit all (inl (rule, here, cut)) (inr (j, is, place)) =
      let low = rule_left g q rule h here in
      let same : rule.left ≡ head k p = ap (λ (x : NormalRule). x.left) (sym cut.is) ∙ left in
      absurd (omega arith)
  rule_falls q es k p t us nr falls at there left fit all (inr (j, part, here, number, cut)) (inl (n, is, low)) =
      let same : length g.nonterminals + j ≡ n = ap (λ (x : NormalRule). x.left) (sym cut.is) ∙ left ∙ ap (head k) is in
      absurd (omega arith)
  rule_falls q es k p t us nr falls at there left fit all (inr (j, part, here, number, cut)) (inr (i, is, place)) =
      let same : length g.nonterminals + j ≡ head k p = ap (λ (x : NormalRule). x.left) (sym cut.is) ∙ left in
      let one : j ≡ i = omega arith in
      subst (λ y. FallsApart y t (cost s (Deriv q es)) (list (Deriv q es))) (some_same (sym here ∙ ap (slice_get (places g.rules)) one ∙ place))
      (helper_falls q es j part t us falls cut.below number nr cut.is there fit all)

  mutual
    down : (e : Derivation) → Falls e
    down (Deriv q es) k p t at (rule, there, left, (us, fit, all)) =
        let b = seen_back normal q rule there in
        rule_falls q es k p t us b.0 (all_down es) at (there ∙ ap (λ x. Some x) b.2) (ap (λ (x : Rule). x.left) (sym b.2) ∙ left) (ap (λ (x : Rule). fits x t) (sym b.2) ∙ fit)
        (subst (λ (x : Rule). DeriveAll s es (leaves x.pattern) us) b.2 all) (is_cut.back q b.0 b.1) (place_of g k p at)

    all_down : (es : Derivations) → AllFall es
    all_down no_more = tt
    all_down (more e es) = (down e, all_down es)

  -- one derivation under the grammar, for one in the normal form from a user nonterminal
  pub record HasDown (n : ℕ) (t : PlainTree) (e : Derivation) : Type 0 where
    pub one : Derivation
    pub derives : Derives g one n t
    pub cost_is : cost g one ≡ cost s e
    pub list_is : list one ≡ kept (list e)

  pub user_down : (e : Derivation) (n : ℕ) (t : PlainTree) → n < length g.nonterminals → Derives s e n t → HasDown n t e
  user_down e n t low d =
      let a = down e 0 (Leaf n) t low d in
      let x = kid_of g a.kids n t (subst (λ y. DeriveAll g a.kids (n ∷ []) y) (sym (some_same a.lies)) a.derive) in
      record {
        one = x.0;
        derives = x.2;
        cost_is = sum_none (cost g x.0) ∙ ap (costs g) (sym x.1) ∙ a.costs_are;
        list_is = sym (append-nil (list x.0)) ∙ ap lists (sym x.1) ∙ a.lists_are;
      }
