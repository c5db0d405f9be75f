-- At one tree, a best derivation or none, where the subtrees' are known and free chain rules make no cycle. Among the derivations that use no chain
-- rule twice at their root there is a first one, found by trying each rule. It leads all others, since a round of chain rules costs more than nothing.
use Rattle.std.proofs.Common.{◌≡◌, ℕ, zero, suc, ◌<◌, ◌⊎◌, inl, inr, List, [], ◌∷◌, refl, ap, subst, sym, ◌∙◌, Option, Some, None, Bool, true, false, length, arith}
use Rattle.std.proofs.lemmas.Option.{slice_get_within}
use Rattle.sel_grammar.specs.declared.grammar.Grammar.{Grammar}
use Rattle.sel_grammar.specs.declared.grammar.Rule.{Rule}
use Rattle.sel_grammar.specs.declared.grammar.Pattern.{Leaf}
use Rattle.sel_grammar.specs.Costs.{Cost, no_cost, ◌⊕◌, IsCheaper, price}
use Rattle.sel_grammar.specs.PlainTrees.{PlainTree}
use Rattle.sel_grammar.specs.Fits.{leaves, fits, rule_at}
use Rattle.sel_grammar.specs.Derivations.{Derivation, Deriv, Derivations, no_more, more, Derives, DeriveAll, rule_cost, cost, list, lists}
use Rattle.sel_grammar.specs.Chains.{FreeWalk, last, step, HasNoFreeCycle}
use Rattle.sel_grammar.specs.Best.{HasNone}
use Rattle.sel_grammar.specs.Firsts.{IsBefore, IsLesser, Leads, LeadAll, IsFirst}
use Rattle.sel_grammar.proofs.CostLaws.{cheaper_trans, cheaper_same, same_cheaper, same_sums, sum_none, sum_before, sum_comm, sum_same, paid_more, cost_same_or_not, cheaper_or_not}
use Rattle.sel_grammar.proofs.Firsts.{DeriveAll-first, LeadAll-first, Leads-kids, lead_more}
use Rattle.sel_grammar.proofs.Order.{IsBefore-trans}
use Rattle.sel_grammar.proofs.Closure.{root, IsOperator, IsChain, Outcome, chain_or_not, EachKid, by_kids, kid_of, some_same, some_none, fits_chain, same_rule}
use Rattle.sel_grammar.proofs.UsedRules.{Used, none_used, with_rule, same_or_not, with_other, with_more, with_both, with_swap, not_both, unused_where_more, unused, unused_less}

lesser_trans : (a b c : Cost) (xs ys zs : List ℕ) → IsLesser a xs b ys → IsLesser b ys c zs → IsLesser a xs c zs
lesser_trans a b c xs ys zs (inl h) (inl k) = inl (cheaper_trans a b c h k)
lesser_trans a b c xs ys zs (inl h) (inr k) = inl (cheaper_same a b c h k.0)
lesser_trans a b c xs ys zs (inr h) (inl k) = inl (same_cheaper a b c h.0 k)
lesser_trans a b c xs ys zs (inr h) (inr k) = inr (h.0 ∙ k.0, IsBefore-trans xs ys zs h.1 k.1)

pub Leads-trans : (g : Grammar) (d e f : Derivation) → Leads g d e → Leads g e f → Leads g d f
Leads-trans g d e f (inl h) k = subst (λ x. Leads g x f) h k
Leads-trans g d e f (inr h) (inl k) = inr (subst (λ x. IsLesser (cost g d) (list d) (cost g x) (list x)) (sym k) h)
Leads-trans g d e f (inr h) (inr k) = inr (lesser_trans (cost g d) (cost g e) (cost g f) (list d) (list e) (list f) h k)

-- of the derivations with a property there is a first one, or there are none
abbrev HasFirst : Grammar → (Derivation → Type 0) → Type 0
HasFirst g P = ((d : Derivation) × P d × ((e : Derivation) → P e → Leads g d e)) ⊎ ((e : Derivation) → P e → ⊥)

-- the first of two firsts
module _ (g : Grammar) (P Q R : Derivation → Type 0) (left : (d : Derivation) → P d → R d) (right : (d : Derivation) → Q d → R d)
    (either : (d : Derivation) → R d → P d ⊎ Q d) (total : (d e : Derivation) → P d → Q e → Leads g d e ⊎ Leads g e d) where
  over_both : (d : Derivation) → ((e : Derivation) → P e → Leads g d e) → ((e : Derivation) → Q e → Leads g d e) → (e : Derivation) → R e → Leads g d e
  over_both d l m e h = go (either e h)
    where
      go : P e ⊎ Q e → Leads g d e
      go (inl k) = l e k
      go (inr k) = m e k

  first_of_two : HasFirst g P → HasFirst g Q → HasFirst g R
  first_of_two (inr un) (inr none) = inr (λ e h. elim (either e h) [ inl k ↦ un e k | inr k ↦ none e k ])
  first_of_two (inl (d, p, l)) (inr none) = inl (d, left d p, over_both d l (λ e k. absurd (none e k)))
  first_of_two (inr un) (inl (d, q, l)) = inl (d, right d q, over_both d (λ e k. absurd (un e k)) l)
  first_of_two (inl (d, p, l)) (inl (e, q, m)) = go (total d e p q)
    where
      go : Leads g d e ⊎ Leads g e d → HasFirst g R
      go (inl k) = inl (d, left d p, over_both d l (λ f h. Leads-trans g d e f k (m f h)))
      go (inr k) = inl (e, right e q, over_both e (λ f h. Leads-trans g e d f k (l f h)) m)

rule_within : (g : Grammar) (r : ℕ) (rule : Rule) → rule_at g r ≡ Some rule → r < suc (length g.rules)
rule_within g zero rule at = omega arith
rule_within g (suc k) rule at = let h = slice_get_within g.rules k rule at in omega arith

no_rule : (g : Grammar) (r : ℕ) (rule : Rule) → rule_at g r ≡ None → rule_at g r ≡ Some rule → ⊥
no_rule g r rule h k = some_none (sym k ∙ h)

pub chain_cost : (g : Grammar) (r : ℕ) (rule : Rule) (d : Derivation) → rule_at g r ≡ Some rule → cost g (Deriv r (more d no_more)) ≡ price rule ⊕ cost g d
chain_cost g r rule d at = same_sums (rule_cost (rule_at g r)) (price rule) (cost g d ⊕ no_cost) (cost g d) (ap rule_cost at) (sym (sum_none (cost g d)))

module _ (g : Grammar) (t : PlainTree) where
  -- a derivation that uses no chain rule twice at its root, and none that was used before
  data Fresh : Used → Derivation → ℕ → Type 0 where
    by_operator : (s : Used) (n r : ℕ) (rule : Rule) (ds : Derivations) (ts : List PlainTree) → rule_at g r ≡ Some rule → rule.left ≡ n → IsOperator rule → fits rule t ≡ Some ts → DeriveAll g ds (leaves rule.pattern) ts → Fresh s (Deriv r ds) n
    by_chain : (s : Used) (n r m : ℕ) (rule : Rule) (d : Derivation) → rule_at g r ≡ Some rule → rule.left ≡ n → IsChain t rule m → s r ≡ false → Fresh (with_rule r s) d m → Fresh s (Deriv r (more d no_more)) n

  Fresh-derives : {s : Used} {d : Derivation} {n : ℕ} → Fresh s d n → Derives g d n t
  Fresh-derives (by_operator s n r rule ds ts at left op fit all) = (rule, at, left, (ts, fit, all))
  Fresh-derives (by_chain s n r m rule d at left ch u w) =
      (rule, at, left, (t ∷ [], ch.fitting, subst (λ ns. DeriveAll g (more d no_more) ns (t ∷ [])) (sym (ap leaves ch.chain)) (Fresh-derives w, tt)))

  Fresh-fewer : (s s' : Used) {d : Derivation} {n : ℕ} → ((x : ℕ) → s x ≡ true → s' x ≡ true) → Fresh s' d n → Fresh s d n
  Fresh-fewer s s' f (by_operator _ n r rule ds ts at left op fit all) = by_operator s n r rule ds ts at left op fit all
  Fresh-fewer s s' f (by_chain _ n r m rule d at left ch u w) =
      by_chain s n r m rule d at left ch (unused_where_more (s r) (s' r) (f r) u) (Fresh-fewer (with_rule r s) (with_rule r s') (with_both r s s' f) w)

  abbrev FirstFresh : Used → ℕ → Type 0
  FirstFresh s n = HasFirst g (λ e. Fresh s e n)

  -- by the rule r
  abbrev Of : Used → ℕ → ℕ → Derivation → Type 0
  Of s n r e = (es : Derivations) × (e ≡ Deriv r es) × Fresh s (Deriv r es) n

  pub kids_of : (n r : ℕ) (rule : Rule) (ts : List PlainTree) (es : Derivations) → rule_at g r ≡ Some rule → fits rule t ≡ Some ts → Derives g (Deriv r es) n t → DeriveAll g es (leaves rule.pattern) ts
  kids_of n r rule ts es at fit (rule', at', left', (ts', fit', all')) =
      let same : rule' ≡ rule = same_rule g r r rule' rule at' at refl in
      let one : ts' ≡ ts = some_same (sym fit' ∙ ap (λ (x : Rule). fits x t) same ∙ fit) in
      subst (λ x. DeriveAll g es (leaves rule.pattern) x) one (subst (λ (x : Rule). DeriveAll g es (leaves x.pattern) ts') same all')

  -- the kid of a chain rule
  chain_kid : {s : Used} {n r : ℕ} {es : Derivations} (rule : Rule) (m : ℕ) → rule_at g r ≡ Some rule → rule.pattern ≡ Leaf m → Fresh s (Deriv r es) n
      → (e : Derivation) × (es ≡ more e no_more) × (s r ≡ false) × Fresh (with_rule r s) e m
  chain_kid rule m at p (by_operator s n r rule' ds ts at' left op fit all) = absurd (op m (ap (λ (x : Rule). x.pattern) (same_rule g r r rule' rule at' at refl) ∙ p))
  chain_kid rule m at p (by_chain s n r m' rule' d at' left ch u w) =
      let q : Leaf m' ≡ Leaf m = sym ch.chain ∙ ap (λ (x : Rule). x.pattern) (same_rule g r r rule' rule at' at refl) ∙ p in
      let same : m' ≡ m = cc in
      (d, refl, u, subst (λ x. Fresh (with_rule r s) d x) same w)

  -- the first by one rule, where the kids' are known
  module _ (low : (r : ℕ) (rule : Rule) (ts : List PlainTree) → rule_at g r ≡ Some rule → IsOperator rule → fits rule t ≡ Some ts → Outcome g (leaves rule.pattern) ts) (s : Used) (n r : ℕ) where
    by_kids_of : (rule : Rule) (ts : List PlainTree) → rule_at g r ≡ Some rule → rule.left ≡ n → fits rule t ≡ Some ts → IsOperator rule → Outcome g (leaves rule.pattern) ts → HasFirst g (Of s n r)
    by_kids_of rule ts at left fit op (inr none) = inr (λ e h. none h.0 (kids_of n r rule ts h.0 at fit (Fresh-derives h.2)))
    by_kids_of rule ts at left fit op (inl (ds, f)) = inl (
      Deriv r ds,
      (ds, refl, by_operator s n r rule ds ts at left op fit (DeriveAll-first g ds (leaves rule.pattern) ts f)),
      λ e h. subst (λ x. Leads g (Deriv r ds) x) (sym h.1) (Leads-kids g r ds h.0 (LeadAll-first g ds h.0 (leaves rule.pattern) ts f (kids_of n r rule ts h.0 at fit (Fresh-derives h.2)))),
    )

    by_kid : (rule : Rule) (m : ℕ) → rule_at g r ≡ Some rule → rule.left ≡ n → IsChain t rule m → s r ≡ false → FirstFresh (with_rule r s) m → HasFirst g (Of s n r)
    by_kid rule m at left ch u (inr none) = inr (λ e h. let k = chain_kid rule m at ch.chain h.2 in none k.0 k.3)
    by_kid rule m at left ch u (inl (d, w, lead)) = inl (
      Deriv r (more d no_more),
      (more d no_more, refl, by_chain s n r m rule d at left ch u w),
      λ e h.
          let k = chain_kid rule m at ch.chain h.2 in
          let all : LeadAll g (more d no_more) h.0 = subst (λ x. LeadAll g (more d no_more) x) (sym k.1) (lead_more g d k.0 no_more no_more (lead k.0 k.3) (inl refl)) in
          subst (λ x. Leads g (Deriv r (more d no_more)) x) (sym h.1) (Leads-kids g r (more d no_more) h.0 all),
    )

    by_chain_rule : (rule : Rule) (m : ℕ) → rule_at g r ≡ Some rule → rule.left ≡ n → IsChain t rule m → (b : Bool) → s r ≡ b → (s r ≡ false → FirstFresh (with_rule r s) m) → HasFirst g (Of s n r)
    by_chain_rule rule m at left ch true u rec = inr (λ e h. let k = chain_kid rule m at ch.chain h.2 in not_both (s r) u k.2)
    by_chain_rule rule m at left ch false u rec = by_kid rule m at left ch u (rec u)

    by_rule : ((m : ℕ) (rule : Rule) → rule_at g r ≡ Some rule → s r ≡ false → FirstFresh (with_rule r s) m) → HasFirst g (Of s n r)
    by_rule rec = looked (rule_at g r) refl
      where
        fitted : (rule : Rule) → rule_at g r ≡ Some rule → rule.left ≡ n → (o : Option (List PlainTree)) → fits rule t ≡ o → ((m : ℕ) × (rule.pattern ≡ Leaf m)) ⊎ ((m : ℕ) → rule.pattern ≡ Leaf m → ⊥) → HasFirst g (Of s n r)
        fitted rule at left None fit c = inr (λ e h. let (rule', at', left', (ts', fit', all')) = Fresh-derives h.2 in some_none (sym fit' ∙ ap (λ (x : Rule). fits x t) (same_rule g r r rule' rule at' at refl) ∙ fit))
        fitted rule at left (Some ts) fit (inl (m, p)) =
            by_chain_rule rule m at left (record { chain = p; fitting = fit ∙ ap (λ (x : List PlainTree). Some x) (fits_chain rule t m ts p fit) }) (s r) refl (λ u. rec m rule at u)
        fitted rule at left (Some ts) fit (inr op) = by_kids_of rule ts at left fit op (low r rule ts at op fit)

        sided : (rule : Rule) → rule_at g r ≡ Some rule → (rule.left ≡ n) ⊎ ¬ (rule.left ≡ n) → HasFirst g (Of s n r)
        sided rule at (inl left) = fitted rule at left (fits rule t) refl (chain_or_not rule.pattern)
        sided rule at (inr other) = inr (λ e h. let (rule', at', left', rest) = Fresh-derives h.2 in other (ap (λ (x : Rule). x.left) (same_rule g r r rule rule' at at' refl) ∙ left'))

        looked : (o : Option Rule) → rule_at g r ≡ o → HasFirst g (Of s n r)
        looked None at = inr (λ e h. let (rule', at', left', rest) = Fresh-derives h.2 in no_rule g r rule' at at')
        looked (Some rule) at = sided rule at (same_or_not rule.left n)

  root_below : {s : Used} {e : Derivation} {n : ℕ} → Fresh s e n → root e < suc (length g.rules)
  root_below (by_operator s n r rule ds ts at left op fit all) = rule_within g r rule at
  root_below (by_chain s n r m rule d at left ch u w) = rule_within g r rule at

  -- by one of the rules below a number
  abbrev Under : Used → ℕ → ℕ → Derivation → Type 0
  Under s n k e = Fresh s e n × (root e < k)

  under_suc : (s : Used) (n k : ℕ) (e : Derivation) → Under s n (suc k) e → Under s n k e ⊎ Of s n k e
  under_suc s n k (Deriv r es) (w, h) = go (less_or_same r k h)
    where
      less_or_same : (x y : ℕ) → x < suc y → (x < y) ⊎ (x ≡ y)
      less_or_same x y h = grind arith

      go : (r < k) ⊎ (r ≡ k) → Under s n k (Deriv r es) ⊎ Of s n k (Deriv r es)
      go (inl l) = inl (w, l)
      go (inr q) = inr (es, ap (λ x. Deriv x es) q, subst (λ x. Fresh s (Deriv x es) n) q w)

  under_more : (s : Used) (n k : ℕ) (e : Derivation) → Under s n k e → Under s n (suc k) e
  under_more s n k e h = let l = h.1 in (h.0, omega arith)

  under_of : (s : Used) (n k : ℕ) (e : Derivation) → Of s n k e → Under s n (suc k) e
  under_of s n k e (es, q, w) = subst (λ x. Under s n (suc k) x) (sym q) (w, omega arith)

  -- of two derivations with different rules one leads
  under_total : (s : Used) (n k : ℕ) (d e : Derivation) → Under s n k d → Of s n k e → Leads g d e ⊎ Leads g e d
  under_total s n k d e h (es, q, w) = go (cheaper_or_not (cost g d) (cost g e))
    where
      front : (d : Derivation) → root d < k → IsBefore (list d) (k ∷ lists es)
      front (Deriv r ds) h = inl h

      go : IsCheaper (cost g d) (cost g e) ⊎ ((cost g d ≡ cost g e) ⊎ IsCheaper (cost g e) (cost g d)) → Leads g d e ⊎ Leads g e d
      go (inl c) = inl (inr (inl c))
      go (inr (inl c)) = inl (inr (inr (c, subst (λ x. IsBefore (list d) (list x)) (sym q) (front d h.1))))
      go (inr (inr c)) = inr (inr (inl c))

  first_under : (s : Used) (n : ℕ) → ((r : ℕ) → HasFirst g (Of s n r)) → (k : ℕ) → HasFirst g (Under s n k)
  first_under s n by zero = inr (λ e h. let l = h.1 in absurd (omega arith))
  first_under s n by (suc k) =
      first_of_two g (Under s n k) (Of s n k) (Under s n (suc k)) (under_more s n k) (under_of s n k) (under_suc s n k) (under_total s n k) (first_under s n by k) (by k)

  first_all : (s : Used) (n : ℕ) → HasFirst g (Under s n (suc (length g.rules))) → FirstFresh s n
  first_all s n (inl (d, h, lead)) = inl (d, h.0, λ e w. lead e (w, root_below w))
  first_all s n (inr none) = inr (λ e w. none e (w, root_below w))

  -- each rule is tried, with what was used so far
  module _ (low : (r : ℕ) (rule : Rule) (ts : List PlainTree) → rule_at g r ≡ Some rule → IsOperator rule → fits rule t ≡ Some ts → Outcome g (leaves rule.pattern) ts) where
    first_fresh : (fuel : ℕ) (s : Used) → unused (suc (length g.rules)) s < fuel → (n : ℕ) → FirstFresh s n
    first_fresh zero s h n = absurd (omega arith)
    first_fresh (suc fuel) s h n =
        first_all s n (first_under s n
        (λ r. by_rule low s n r (λ m rule at u.
        let l = unused_less (suc (length g.rules)) r s u (rule_within g r rule at) in
        first_fresh fuel (with_rule r s) (omega arith) m))
        (suc (length g.rules)))

  -- what stands under a use of the rule r, and costs no more
  record Cut (r : ℕ) (s : Used) (d : Derivation) (n : ℕ) : Type 0 where
    under : Derivation
    from : ℕ
    fresh : Fresh s under from
    rule : Rule
    numbered : rule_at g r ≡ Some rule
    left : rule.left ≡ from
    over : (((n ≡ from) ⊎ FreeWalk g n from) × (cost g d ≡ cost g under)) ⊎ IsCheaper (cost g under) (cost g d)

  -- a chain rule above leads on
  over_rule : (r n m : ℕ) (rule : Rule) (d x : Derivation) (from : ℕ) → rule_at g r ≡ Some rule → rule.left ≡ n → rule.pattern ≡ Leaf m
      → (((m ≡ from) ⊎ FreeWalk g m from) × (cost g d ≡ cost g x)) ⊎ IsCheaper (cost g x) (cost g d)
      → (FreeWalk g n from × (cost g (Deriv r (more d no_more)) ≡ cost g x)) ⊎ IsCheaper (cost g x) (cost g (Deriv r (more d no_more)))
  over_rule r n m rule d x from at left chain over = go over (cost_same_or_not (price rule) no_cost) (paid_more rule.cost (cost g d))
    where
      above : cost g (Deriv r (more d no_more)) ≡ price rule ⊕ cost g d
      above = chain_cost g r rule d at

      walk : price rule ≡ no_cost → (m ≡ from) ⊎ FreeWalk g m from → FreeWalk g n from
      walk free (inl q) = subst (λ v. FreeWalk g n v) q (last {r = r} (record { rule = rule; numbered = at; left = left; chain = chain; free = free }))
      walk free (inr w) = step {r = r} (record { rule = rule; numbered = at; left = left; chain = chain; free = free }) w

      go : (((m ≡ from) ⊎ FreeWalk g m from) × (cost g d ≡ cost g x)) ⊎ IsCheaper (cost g x) (cost g d) → (price rule ≡ no_cost) ⊎ ¬ (price rule ≡ no_cost)
          → (cost g d ≡ price rule ⊕ cost g d) ⊎ IsCheaper (cost g d) (price rule ⊕ cost g d)
          → (FreeWalk g n from × (cost g (Deriv r (more d no_more)) ≡ cost g x)) ⊎ IsCheaper (cost g x) (cost g (Deriv r (more d no_more)))
      go (inr c) f (inl p) = inr (cheaper_same _ _ _ c (p ∙ sym above))
      go (inr c) f (inr p) = inr (cheaper_same _ _ _ (cheaper_trans _ _ _ c p) (sym above))
      go (inl (w, same)) (inl free) p = inl (walk free w, above ∙ ap (λ y. y ⊕ cost g d) free ∙ sym (sum_before (cost g d)) ∙ same)
      go (inl (w, same)) (inr paid) (inl p) = absurd (paid (sum_same (cost g d) (price rule) (sum_comm (cost g d) (price rule) ∙ sym p)))
      go (inl (w, same)) (inr paid) (inr p) = inr (cheaper_same _ _ _ (same_cheaper _ _ _ (sym same) p) (sym above))

  cut : (r : ℕ) (s : Used) {d : Derivation} {n : ℕ} → Fresh s d n → Fresh (with_rule r s) d n ⊎ Cut r s d n
  cut r s (by_operator _ n q rule ds ts at left op fit all) = inl (by_operator (with_rule r s) n q rule ds ts at left op fit all)
  cut r s (by_chain _ n q m rule d at left ch u w) = go (same_or_not q r) (cut r (with_rule q s) w)
    where
      go : (q ≡ r) ⊎ ¬ (q ≡ r) → Fresh (with_rule r (with_rule q s)) d m ⊎ Cut r (with_rule q s) d m → Fresh (with_rule r s) (Deriv q (more d no_more)) n ⊎ Cut r s (Deriv q (more d no_more)) n
      go (inl same) c = inr (record {
        under = Deriv q (more d no_more);
        from = n;
        fresh = by_chain s n q m rule d at left ch u w;
        rule = rule;
        numbered = ap (rule_at g) (sym same) ∙ at;
        left = left;
        over = inl (inl refl, refl);
      })
      go (inr other) (inl f) = inl (by_chain (with_rule r s) n q m rule d at left ch (with_other r q s other u) (Fresh-fewer (with_rule q (with_rule r s)) (with_rule r (with_rule q s)) (with_swap r q s) f))
      go (inr other) (inr c) = inr (record {
        under = c.under;
        from = c.from;
        fresh = Fresh-fewer s (with_rule q s) (with_more q s) c.fresh;
        rule = c.rule;
        numbered = c.numbered;
        left = c.left;
        over = elim (over_rule q n m rule d c.under c.from at left ch.chain c.over) [ inl p ↦ inl (inr p.0, p.1) | inr p ↦ inr p ];
      })

  -- a derivation that uses no rule twice at its root leads each derivation
  module _ (none : HasNoFreeCycle g) where
    abbrev IsFreshened : Derivation → Type 0
    IsFreshened e = (n : ℕ) → Derives g e n t → (d : Derivation) × Fresh none_used d n × Leads g d e

    freshened_chain : (r : ℕ) (es : Derivations) → EachKid IsFreshened es → (n : ℕ) (rule : Rule) (m : ℕ) → rule_at g r ≡ Some rule → rule.left ≡ n → IsChain t rule m → DeriveAll g es (m ∷ []) (t ∷ [])
        → (d : Derivation) × Fresh none_used d n × Leads g d (Deriv r es)
    freshened_chain r es each n rule m at left ch all = with_kid (kid_of g t IsFreshened es m all each)
      where
        chained : (e : Derivation) → es ≡ more e no_more → (d : Derivation) → Leads g d e → Leads g (Deriv r (more d no_more)) (Deriv r es)
        chained e is d l = Leads-kids g r (more d no_more) es (subst (λ x. LeadAll g (more d no_more) x) (sym is) (lead_more g d e no_more no_more l (inl refl)))

        with_cut : (e : Derivation) → es ≡ more e no_more → (d : Derivation) → Fresh none_used d m → Leads g d e → Fresh (with_rule r none_used) d m ⊎ Cut r none_used d m
            → (d : Derivation) × Fresh none_used d n × Leads g d (Deriv r es)
        with_cut e is d w l (inl f) = (Deriv r (more d no_more), by_chain none_used n r m rule d at left ch refl f, chained e is d l)
        with_cut e is d w l (inr c) = go (over_rule r n m rule d c.under c.from at left ch.chain c.over)
          where
            back : c.from ≡ n
            back = sym c.left ∙ ap (λ (x : Rule). x.left) (same_rule g r r c.rule rule c.numbered at refl) ∙ left

            go : (FreeWalk g n c.from × (cost g (Deriv r (more d no_more)) ≡ cost g c.under)) ⊎ IsCheaper (cost g c.under) (cost g (Deriv r (more d no_more)))
                → (d : Derivation) × Fresh none_used d n × Leads g d (Deriv r es)
            go (inl p) = absurd (none n (subst (λ v. FreeWalk g n v) back p.0))
            go (inr p) = (c.under, subst (λ v. Fresh none_used c.under v) back c.fresh, Leads-trans g c.under (Deriv r (more d no_more)) (Deriv r es) (inr (inl p)) (chained e is d l))

        with_kid : ((e : Derivation) × (es ≡ more e no_more) × Derives g e m t × IsFreshened e) → (d : Derivation) × Fresh none_used d n × Leads g d (Deriv r es)
        with_kid (e, is, derives, f) = let (d, w, l) = f m derives in with_cut e is d w l (cut r none_used w)

    freshened : (e : Derivation) → IsFreshened e
    freshened = by_kids IsFreshened go
      where
        go : (r : ℕ) (es : Derivations) → EachKid IsFreshened es → IsFreshened (Deriv r es)
        go r es each n (rule, at, left, (ts, fit, all)) = by_pattern (chain_or_not rule.pattern)
          where
            by_pattern : ((m : ℕ) × (rule.pattern ≡ Leaf m)) ⊎ ((m : ℕ) → rule.pattern ≡ Leaf m → ⊥) → (d : Derivation) × Fresh none_used d n × Leads g d (Deriv r es)
            by_pattern (inl (m, p)) =
                let one = fits_chain rule t m ts p fit in
                freshened_chain r es each n rule m at left (record { chain = p; fitting = fit ∙ ap (λ (x : List PlainTree). Some x) one })
                (subst (λ xs. DeriveAll g es (m ∷ []) xs) one (subst (λ ns. DeriveAll g es ns ts) (ap leaves p) all))
            by_pattern (inr op) = (Deriv r es, by_operator none_used n r rule es ts at left op fit all, inl refl)

    -- a best derivation, or none
    pub first_or_none : ((r : ℕ) (rule : Rule) (ts : List PlainTree) → rule_at g r ≡ Some rule → IsOperator rule → fits rule t ≡ Some ts → Outcome g (leaves rule.pattern) ts)
        → (n : ℕ) → ((d : Derivation) × IsFirst g d n t) ⊎ HasNone g n t
    first_or_none low n = go (first_fresh low (suc (unused (suc (length g.rules)) none_used)) none_used (omega arith) n)
      where
        go : FirstFresh none_used n → ((d : Derivation) × IsFirst g d n t) ⊎ HasNone g n t
        go (inl (d, w, lead)) = inl (d, record { derives = Fresh-derives w; leads = λ e h. let (f, v, l) = freshened e n h in Leads-trans g d f e (lead f v) l })
        go (inr empty) = inr (λ e h. let (f, v, l) = freshened e n h in empty f v)
