-- To each derivation under the grammar there is one in the normal form: the kids first, and then a helper's rule for each inner part.
use Rattle.std.proofs.Common.{◌≡◌, ℕ, zero, suc, ◌+◌, ◌<◌, ◌≤◌, List, [], ◌∷◌, ◌++◌, length, refl, ap, subst, sym, ◌∙◌, Option, Some, None, Bool, true, false, cond, ◌==◌, if◌then◌else◌, slice_get, arith, append-nil, append_assoc, length-append}
use Rattle.std.specs.Prelude.{nat_le}
use Rattle.std.specs.List.{filter}
use Rattle.std.proofs.lemmas.List.Elements.{filter-append}
use Rattle.std.proofs.lemmas.Bool.{le-leb, leb-true}
use Rattle.sel_base.proofs.Shared.Choices.{if_some}
use Rattle.sel_grammar.proofs.Subtrees.{subtrees_long}
use Rattle.sel_base.specs.declared.range.Range.{Range}
use Rattle.sel_grammar.specs.declared.grammar.Attribute.{Attribute}
use Rattle.sel_grammar.specs.declared.grammar.Grammar.{Grammar}
use Rattle.sel_grammar.specs.declared.grammar.Rule.{Rule}
use Rattle.sel_grammar.specs.declared.grammar.Pattern.{Pattern, Leaf, Nullary, Unary', Binary', end_of-Pattern, more_of-Pattern}
use Rattle.sel_grammar.specs.Costs.{Cost, no_cost, ◌⊕◌, paid, price}
use Rattle.sel_grammar.specs.PlainTrees.{PlainTree, Node0, Node1, Node2, attribute_of}
use Rattle.sel_grammar.specs.Fits.{leaves, joined, subtrees, fits, rule_at, in_range}
use Rattle.sel_grammar.specs.Derivations.{Derivation, Deriv, Derivations, no_more, more, Derives, DeriveAll, rule_cost, cost, costs, list, lists}
use Rattle.sel_grammar.specs.Lawful.{IsLawful, IsRuleOf}
use Rattle.sel_grammar.proofs.CostLaws.{sum_none, sum_before, sum_assoc}
use Rattle.sel_normal.specs.declared.normal.Body.TheVariants.{Operator}
use Rattle.sel_normal.specs.declared.normal.NormalRule.{NormalRule}
use Rattle.sel_normal.specs.NormalForms.{NormalForm, normal_at}
use Rattle.sel_normal.specs.Forms.{parts, places, head, body, helper_rule, test_number, IsFormOf}
use Rattle.sel_normal.specs.Seen.{seen_kids, seen_pattern, seen_range, range_at, seen_rule, seen}
use Rattle.sel_normal.specs.Cuts.{HeadAt, BodyAt, IsOperatorPart, CutUser, CutHelper, IsCut}
use Rattle.sel_normal.specs.Matches.{without_helpers}
use Rattle.sel_normal.proofs.Steps.{some_same, some_none, within_rules}
use Rattle.sel_normal.proofs.Seeing.{leaves_one, leaves_two, subtrees_one, subtrees_two, rule_seen, fits_both, both_fit}

-- lists are put together part by part
pub kept_both : (normal : NormalForm) (xs ys : List ℕ) → without_helpers normal (xs ++ ys) ≡ without_helpers normal xs ++ without_helpers normal ys
kept_both normal xs ys = filter-append (λ r. nat_le r normal.user_rules) xs ys

pub kept_user : (normal : NormalForm) (r : ℕ) (xs : List ℕ) → r ≤ normal.user_rules → without_helpers normal (r ∷ xs) ≡ r ∷ without_helpers normal xs
kept_user normal r xs h = ap (λ b. cond b (r ∷ without_helpers normal xs) (without_helpers normal xs)) (le-leb r normal.user_rules h)

pub left_out : (normal : NormalForm) (r : ℕ) (xs : List ℕ) → normal.user_rules < r → without_helpers normal (r ∷ xs) ≡ without_helpers normal xs
left_out normal r xs h = go (nat_le r normal.user_rules) refl
  where
    go : (b : Bool) → nat_le r normal.user_rules ≡ b → without_helpers normal (r ∷ xs) ≡ without_helpers normal xs
    go true e = let l = leb-true r normal.user_rules e in absurd (omega arith)
    go false e = ap (λ b. cond b (r ∷ without_helpers normal xs) (without_helpers normal xs)) e

-- two lists of subtrees, taken apart
pub joined_parts : (x y : Option (List PlainTree)) (ts : List PlainTree) → joined x y ≡ Some ts → (us : List PlainTree) × (vs : List PlainTree) × (x ≡ Some us) × (y ≡ Some vs) × (us ++ vs ≡ ts)
joined_parts None y ts h = absurd (some_none (sym h))
joined_parts (Some us) None ts h = absurd (some_none (sym h))
joined_parts (Some us) (Some vs) ts h = (us, vs, refl, refl, some_same h)

-- the kids of two lists of nonterminals, taken apart
pub record AreSplit (s : Grammar) (es : Derivations) (ns ms : List ℕ) (ts us : List PlainTree) : Type 0 where
  pub front : Derivations
  pub back : Derivations
  pub derive_front : DeriveAll s front ns ts
  pub derive_back : DeriveAll s back ms us
  pub costs_are : costs s es ≡ costs s front ⊕ costs s back
  pub lists_are : lists es ≡ lists front ++ lists back

suc_same : {a b : ℕ} → suc a ≡ suc b → a ≡ b
suc_same h = cc

pub split : (s : Grammar) (es : Derivations) (ns ms : List ℕ) (ts us : List PlainTree) → length ns ≡ length ts → DeriveAll s es (ns ++ ms) (ts ++ us) → AreSplit s es ns ms ts us
split s es [] ms [] us q h = record { front = no_more; back = es; derive_front = tt; derive_back = h; costs_are = sum_before (costs s es); lists_are = refl }
split s es [] ms (t ∷ ts) us q h = cc
split s es (n ∷ ns) ms [] us q h = cc
split s no_more (n ∷ ns) ms (t ∷ ts) us q h = absurd h
split s (more e es) (n ∷ ns) ms (t ∷ ts) us q h =
    let r = split s es ns ms ts us (suc_same q) h.1 in
    record {
      front = more e r.front;
      back = r.back;
      derive_front = (h.0, r.derive_front);
      derive_back = r.derive_back;
      costs_are = ap (λ x. cost s e ⊕ x) r.costs_are ∙ sym (sum_assoc (cost s e) (costs s r.front) (costs s r.back));
      lists_are = ap (λ l. list e ++ l) r.lists_are ∙ sym (append_assoc (list e) (lists r.front) (lists r.back));
    }

module _ (g : Grammar) (normal : NormalForm) (h : IsLawful g) (form : IsFormOf g normal) (is_cut : IsCut g normal) where
  abbrev s : Grammar
  s = seen normal

  abbrev kept : List ℕ → List ℕ
  kept = without_helpers normal

  -- one derivation from the normal nonterminal of the part, in place of those from its leaves
  pub record IsGathered (k : ℕ) (p : Pattern) (t : PlainTree) (es : Derivations) : Type 0 where
    pub one : Derivation
    pub derives : Derives s one (head k p) t
    pub cost_is : cost s one ≡ costs s es
    pub list_is : kept (list one) ≡ kept (lists es)

  -- those from the normal nonterminals of the kids of the pattern's root
  pub record AreGathered (k : ℕ) (test : Option ℕ) (p : Pattern) (t : PlainTree) (es : Derivations) : Type 0 where
    pub under : List PlainTree
    pub lies : subtrees (seen_pattern (body k test p)) t ≡ Some under
    pub kids : Derivations
    pub derive : DeriveAll s kids (leaves (seen_pattern (body k test p))) under
    pub costs_are : costs s kids ≡ costs s es
    pub lists_are : kept (lists kids) ≡ kept (lists es)

  abbrev Gathers : Pattern → Type 0
  Gathers p = (k : ℕ) (test : Option ℕ) (t : PlainTree) (ts : List PlainTree) (es : Derivations) → BodyAt g k p → subtrees p t ≡ Some ts → DeriveAll s es (leaves p) ts → AreGathered k test p t es

  -- a normal rule without a range, whose kids were gathered
  by_helper : (j : ℕ) (p : Pattern) (t : PlainTree) (es : Derivations) → slice_get (places g.rules) j ≡ Some p → Gathers p → (ts : List PlainTree) → subtrees p t ≡ Some ts → DeriveAll s es (leaves p) ts
      → (one : Derivation) × Derives s one (length g.nonterminals + j) t × (cost s one ≡ costs s es) × (kept (list one) ≡ kept (lists es))
  by_helper j p t es there gathers ts lies all =
      let helper = is_cut.helper j p there in
      let nr = helper.0 in
      let cut = helper.2 in
      let b = gathers (length g.nonterminals + j + 1) None t ts es cut.below lies all in
      let r : ℕ = length g.rules + j + 1 in
      let rule : Rule = seen_rule normal.tests (helper_rule (length g.nonterminals + j) p) in
      let at : rule_at s r ≡ Some rule = rule_seen normal r nr helper.1 ∙ ap (λ x. Some (seen_rule normal.tests x)) cut.is in
      let users = form.user_rules in (
        Deriv r b.kids,
        (rule, at, refl, (b.under, both_fit rule t b.under (no_range p) b.lies, b.derive)),
        ap (λ o. rule_cost o ⊕ costs s b.kids) at ∙ sym (sum_before (costs s b.kids)) ∙ b.costs_are,
        left_out normal r (lists b.kids) (omega arith) ∙ b.lists_are,
      )
    where
      no_range : (p : Pattern) → in_range (seen_range normal.tests (body (length g.nonterminals + j + 1) None p)) (attribute_of t) ≡ true
      no_range (Leaf n) = refl
      no_range (Nullary op) = refl
      no_range (Unary' op s (more_of-Pattern p end_of-Pattern)) = refl
      no_range (Binary' op s (more_of-Pattern p end_of-Pattern) s' (more_of-Pattern q end_of-Pattern)) = refl

  leaf_gathered : (k n : ℕ) (t : PlainTree) (ts : List PlainTree) (es : Derivations) → subtrees (Leaf n) t ≡ Some ts → DeriveAll s es (n ∷ []) ts → IsGathered k (Leaf n) t es
  leaf_gathered k n t ts no_more lies all = absurd (none ts all)
    where
      none : (ts : List PlainTree) → DeriveAll s no_more (n ∷ []) ts → ⊥
      none [] h = h
      none (t ∷ ts) h = h
  leaf_gathered k n t ts (more e es) lies all = go es (subst (λ x. DeriveAll s (more e es) (n ∷ []) x) (sym (some_same lies)) all)
    where
      go : (es : Derivations) → DeriveAll s (more e es) (n ∷ []) (t ∷ []) → IsGathered k (Leaf n) t (more e es)
      go no_more a = record { one = e; derives = a.0; cost_is = sum_none (cost s e); list_is = ap kept (sym (append-nil (list e))) }
      go (more f fs) a = absurd a.1

  gather_head : (k : ℕ) (p : Pattern) (t : PlainTree) (ts : List PlainTree) (es : Derivations) → HeadAt g k p → Gathers p → subtrees p t ≡ Some ts → DeriveAll s es (leaves p) ts → IsGathered k p t es
  gather_head k (Leaf n) t ts es at gathers lies all = leaf_gathered k n t ts es lies all
  gather_head k (Nullary op) t ts es (j, is, there) gathers lies all =
      let b = by_helper j (Nullary op) t es there gathers ts lies all in record { one = b.0; derives = subst (λ x. Derives s b.0 x t) (sym is) b.1; cost_is = b.2; list_is = b.3 }
  gather_head k (Unary' op z (more_of-Pattern p end_of-Pattern)) t ts es (j, is, there) gathers lies all =
      let b = by_helper j (Unary' op z (more_of-Pattern p end_of-Pattern)) t es there gathers ts lies all in record { one = b.0; derives = subst (λ x. Derives s b.0 x t) (sym is) b.1; cost_is = b.2; list_is = b.3 }
  gather_head k (Binary' op z (more_of-Pattern p end_of-Pattern) z' (more_of-Pattern q end_of-Pattern)) t ts es (j, is, there) gathers lies all =
      let b = by_helper j (Binary' op z (more_of-Pattern p end_of-Pattern) z' (more_of-Pattern q end_of-Pattern)) t es there gathers ts lies all in
      record { one = b.0; derives = subst (λ x. Derives s b.0 x t) (sym is) b.1; cost_is = b.2; list_is = b.3 }

  gather_one : (op k : ℕ) (test : Option ℕ) (whole p : Pattern) (o : ℕ) (a : Attribute) (t : PlainTree) (es : Derivations) → body k test whole ≡ Operator op (Some (head k p)) None test → (op == o) ≡ true → IsGathered k p t es
      → AreGathered k test whole (Node1 o a t) es
  gather_one op k test whole p o a t es is same e = record {
    under = t ∷ [];
    lies = ap (λ b. subtrees (seen_pattern b) (Node1 o a t)) is ∙ subtrees_one op (head k p) o a t ∙ ap (λ b. if b then Some (t ∷ []) else None) same;
    kids = more e.one no_more;
    derive = subst (λ ns. DeriveAll s (more e.one no_more) ns (t ∷ [])) (sym (ap (λ b. leaves (seen_pattern b)) is ∙ leaves_one op (head k p))) (e.derives, tt);
    costs_are = sym (sum_none (cost s e.one)) ∙ e.cost_is;
    lists_are = ap kept (append-nil (list e.one)) ∙ e.list_is;
  }

  gather_two : (op k : ℕ) (test : Option ℕ) (whole p q : Pattern) (o : ℕ) (a : Attribute) (t u : PlainTree) (es : Derivations) (ts us : List PlainTree)
      → body k test whole ≡ Operator op (Some (head k p)) (Some (head (k + length (parts p)) q)) test → (op == o) ≡ true → (x : AreSplit s es (leaves p) (leaves q) ts us)
      → IsGathered k p t x.front → IsGathered (k + length (parts p)) q u x.back → AreGathered k test whole (Node2 o a t u) es
  gather_two op k test whole p q o a t u es ts us is same x e f = record {
    under = t ∷ u ∷ [];
    lies = ap (λ b. subtrees (seen_pattern b) (Node2 o a t u)) is ∙ subtrees_two op (head k p) (head (k + length (parts p)) q) o a t u ∙ ap (λ b. if b then Some (t ∷ u ∷ []) else None) same;
    kids = more e.one (more f.one no_more);
    derive = subst (λ ns. DeriveAll s (more e.one (more f.one no_more)) ns (t ∷ u ∷ [])) (sym (ap (λ b. leaves (seen_pattern b)) is ∙ leaves_two op (head k p) (head (k + length (parts p)) q))) (e.derives, (f.derives, tt));
    costs_are = ap (λ x. cost s e.one ⊕ x) (sym (sum_none (cost s f.one))) ∙ (λ i. e.cost_is i ⊕ f.cost_is i) ∙ sym x.costs_are;
    lists_are = ap kept (ap (λ l. list e.one ++ l) (append-nil (list f.one))) ∙ kept_both normal (list e.one) (list f.one) ∙ (λ i. e.list_is i ++ f.list_is i)
        ∙ sym (kept_both normal (lists x.front) (lists x.back)) ∙ ap kept (sym x.lists_are);
  }

  gathers : (p : Pattern) → Gathers p
  gathers (Leaf n) k test t ts es at lies all = record { under = ts; lies = lies; kids = es; derive = all; costs_are = refl; lists_are = refl }
  gathers (Nullary op) k test t ts es at lies all = record { under = ts; lies = lies; kids = es; derive = all; costs_are = refl; lists_are = refl }
  gathers (Unary' op z (more_of-Pattern p end_of-Pattern)) k test (Node0 o a) ts es at lies all = absurd (some_none (sym lies))
  gathers (Unary' op z (more_of-Pattern p end_of-Pattern)) k test (Node1 o a t) ts es at lies all =
      let l = if_some (op == o) (subtrees p t) ts lies in
      gather_one op k test (Unary' op z (more_of-Pattern p end_of-Pattern)) p o a t es refl l.0 (gather_head k p t ts es at (gathers p) l.1 all)
  gathers (Unary' op z (more_of-Pattern p end_of-Pattern)) k test (Node2 o a t u) ts es at lies all = absurd (some_none (sym lies))
  gathers (Binary' op z (more_of-Pattern p end_of-Pattern) z' (more_of-Pattern q end_of-Pattern)) k test (Node0 o a) ts es at lies all = absurd (some_none (sym lies))
  gathers (Binary' op z (more_of-Pattern p end_of-Pattern) z' (more_of-Pattern q end_of-Pattern)) k test (Node1 o a t) ts es at lies all = absurd (some_none (sym lies))
  gathers (Binary' op z (more_of-Pattern p end_of-Pattern) z' (more_of-Pattern q end_of-Pattern)) k test (Node2 o a t u) ts es at lies all =
      let l = if_some (op == o) (joined (subtrees p t) (subtrees q u)) ts lies in
      let j = joined_parts (subtrees p t) (subtrees q u) ts l.1 in
      let x = split s es (leaves p) (leaves q) j.0 j.1 (subtrees_long p t j.0 j.2) (subst (λ y. DeriveAll s es (leaves p ++ leaves q) y) (sym j.4) all) in
      gather_two op k test (Binary' op z (more_of-Pattern p end_of-Pattern) z' (more_of-Pattern q end_of-Pattern)) p q o a t u es j.0 j.1 refl l.0 x
      (gather_head k p t j.0 x.front at.0 (gathers p) j.2 x.derive_front) (gather_head (k + length (parts p)) q u j.1 x.back at.1 (gathers q) j.3 x.derive_back)

  -- a derivation in the normal form, for one under the grammar
  pub record HasUp (n : ℕ) (t : PlainTree) (d : Derivation) : Type 0 where
    pub one : Derivation
    pub derives : Derives s one n t
    pub cost_is : cost s one ≡ cost g d
    pub list_is : kept (list one) ≡ list d

  pub record HaveUps (ns : List ℕ) (ts : List PlainTree) (ds : Derivations) : Type 0 where
    pub all : Derivations
    pub derive : DeriveAll s all ns ts
    pub costs_are : costs s all ≡ costs g ds
    pub lists_are : kept (lists all) ≡ lists ds

  -- the range of a user rule is tested by its normal rule; a chain rule has none
  pub range_seen : (rule : Rule) (number test : ℕ) → IsRuleOf g rule → range_at normal.tests (test_number test rule.range) ≡ rule.range → seen_range normal.tests (body number (test_number test rule.range) rule.pattern) ≡ rule.range
  range_seen rule number test lawful is = go rule.pattern refl
    where
      leaf_nullary : {n op : ℕ} → Leaf n ≡ Nullary op → ⊥
      leaf_nullary e = cc

      none : (n : ℕ) → rule.pattern ≡ Leaf n → (o : Option Range) → rule.range ≡ o → None ≡ rule.range
      none n p None e = sym e
      none n p (Some r) e = let w = lawful.range r e in absurd (leaf_nullary (sym p ∙ w.1))

      go : (p : Pattern) → rule.pattern ≡ p → seen_range normal.tests (body number (test_number test rule.range) p) ≡ rule.range
      go (Leaf n) e = none n e rule.range refl
      go (Nullary op) e = is
      go (Unary' op z (more_of-Pattern p end_of-Pattern)) e = is
      go (Binary' op z (more_of-Pattern p end_of-Pattern) z' (more_of-Pattern q end_of-Pattern)) e = is

  pub rule_lawful : (r : ℕ) (rule : Rule) → rule_at g r ≡ Some rule → IsRuleOf g rule
  rule_lawful zero rule at = absurd (some_none (sym at))
  rule_lawful (suc k) rule at = h.rules k rule at

  by_rule : (r : ℕ) (ds : Derivations) (n : ℕ) (t : PlainTree) (rule : Rule) (ts : List PlainTree) → rule_at g r ≡ Some rule → rule.left ≡ n → fits rule t ≡ Some ts → HaveUps (leaves rule.pattern) ts ds → HasUp n t (Deriv r ds)
  by_rule r ds n t rule ts at left fit u =
      let user = is_cut.user r rule at in
      let cut = user.2 in
      let f = fits_both rule t ts fit in
      let test : Option ℕ = test_number cut.test rule.range in
      let b = gathers rule.pattern cut.number test t ts u.all cut.below f.1 u.derive in
      let nr : NormalRule = record { left = rule.left; cost = rule.cost; body = body cut.number test rule.pattern } in
      let seen_one : Rule = seen_rule normal.tests nr in
      let at' : rule_at s r ≡ Some seen_one = rule_seen normal r user.0 user.1 ∙ ap (λ x. Some (seen_rule normal.tests x)) cut.is in
      let range = range_seen rule cut.number cut.test (rule_lawful r rule at) cut.range in
      let few = within_rules g r rule at in
      let users = form.user_rules in
      record {
        one = Deriv r b.kids;
        derives = (seen_one, at', left, (b.under, both_fit seen_one t b.under (ap (λ o. in_range o (attribute_of t)) range ∙ f.0) b.lies, b.derive));
        cost_is = (λ i. rule_cost (at' i) ⊕ costs s b.kids) ∙ ap (λ x. price rule ⊕ x) (b.costs_are ∙ u.costs_are) ∙ ap (λ o. rule_cost o ⊕ costs g ds) (sym at);
        list_is = kept_user normal r (lists b.kids) (omega arith) ∙ ap (λ l. r ∷ l) (b.lists_are ∙ u.lists_are);
      }

  mutual
    pub up : (d : Derivation) (n : ℕ) (t : PlainTree) → Derives g d n t → HasUp n t d
    up (Deriv r ds) n t (rule, at, left, (ts, fit, all)) = by_rule r ds n t rule ts at left fit (ups ds (leaves rule.pattern) ts all)

    ups : (ds : Derivations) (ns : List ℕ) (ts : List PlainTree) → DeriveAll g ds ns ts → HaveUps ns ts ds
    ups no_more [] [] all = record { all = no_more; derive = tt; costs_are = refl; lists_are = refl }
    ups no_more [] (t ∷ ts) all = absurd all
    ups no_more (n ∷ ns) ts all = absurd all
    ups (more d ds) [] ts all = absurd all
    ups (more d ds) (n ∷ ns) [] all = absurd all
    ups (more d ds) (n ∷ ns) (t ∷ ts) all =
        let u = up d n t all.0 in
        let v = ups ds ns ts all.1 in
        record {
          all = more u.one v.all;
          derive = (u.derives, v.derive);
          costs_are = λ i. u.cost_is i ⊕ v.costs_are i;
          lists_are = kept_both normal (list u.one) (lists v.all) ∙ (λ i. u.list_is i ++ v.lists_are i);
        }
