-- A cheapest derivation meets no nonterminal twice at one node, so its list is short and its cost small.
use Rattle.std.proofs.Common.{◌≡◌, ℕ, zero, suc, ◌+◌, ◌*◌, ◌<◌, ◌≤◌, ◌⊎◌, inl, inr, List, [], ◌∷◌, ◌++◌, length, length-append, refl, ap, subst, sym, ◌∙◌, Option, Some, None, Bool, true, false, if◌then◌else◌, ◌==◌, arith, ℤ, pos, ◌+ℤ◌, ◌≤ℤ◌}
use Rattle.std.proofs.lemmas.Int.{ints}
use Rattle.std.proofs.lemmas.Bool.{eqb-true}
use Rattle.sel_grammar.specs.declared.grammar.Grammar.{Grammar}
use Rattle.sel_grammar.specs.declared.grammar.Rule.{Rule}
use Rattle.sel_grammar.specs.declared.grammar.Pattern.{Pattern, Leaf, Nullary, Unary', Binary', end_of-Pattern, more_of-Pattern}
use Rattle.sel_grammar.specs.Costs.{Cost, no_cost, ◌⊕◌, IsCheaper, price}
use Rattle.sel_grammar.specs.PlainTrees.{PlainTree, Node0, Node1, Node2, size}
use Rattle.sel_grammar.specs.Fits.{leaves, fits, rule_at, subtrees, joined}
use Rattle.sel_grammar.specs.Derivations.{Derivation, Deriv, Derivations, no_more, more, Derives, DeriveAll, rule_cost, cost, costs, list, lists}
use Rattle.sel_grammar.specs.Chains.{FreeWalk, last, HasNoFreeCycle}
use Rattle.sel_grammar.specs.Best.{IsBest, Beats}
use Rattle.sel_grammar.specs.Limits.{IsWithinLimits}
use Rattle.sel_grammar.specs.SmallCosts.{HasSmallCosts, IsSmall}
use Rattle.sel_grammar.specs.Laws.{BestIsShort, BestIsSmall}
use Rattle.sel_grammar.proofs.CostLaws.{cheaper_trans, cheaper_same, same_cheaper, cheaper_not_both, cheaper_not_same, right_cheaper, left_cheaper, sum_before, sum_comm, sum_same, paid_more, cost_same_or_not, cheaper_or_not}
use Rattle.sel_grammar.proofs.Closure.{chain_or_not, EachKid, by_kids, kid_of, some_same, some_none, fits_chain}
use Rattle.sel_grammar.proofs.Existence.{fits_subtrees}
use Rattle.sel_grammar.proofs.FreshChains.{chain_cost}
use Rattle.sel_grammar.proofs.Ranks.{walk_further}
use Rattle.sel_grammar.proofs.UsedRules.{Used, none_used, with_rule, true_or, unused, unused_less, unused_le}

-- how many nodes the trees have together
abbrev pub sizes : List PlainTree → ℕ
sizes [] = 0
sizes (t ∷ ts) = size t + sizes ts

pub sizes-append : (ts us : List PlainTree) → sizes (ts ++ us) ≡ sizes ts + sizes us
sizes-append [] us = omega arith
sizes-append (t ∷ ts) us = let h = sizes-append ts us in omega arith

-- the subtrees under a pattern are no larger together than the tree, and smaller where it has an operator
abbrev Spares : Pattern → ℕ
Spares (Leaf n) = 0
Spares p = 1

subtrees_size : (p : Pattern) (t : PlainTree) (ts : List PlainTree) → subtrees p t ≡ Some ts → sizes ts + Spares p ≤ size t
subtrees_size (Leaf n) t ts h = let e : sizes (t ∷ []) ≡ sizes ts = ap sizes (some_same h) in omega arith
subtrees_size (Nullary o) (Node0 op a) ts h = go (o == op) h
  where
    go : (c : Bool) → (if c then Some [] else None) ≡ Some ts → sizes ts + 1 ≤ 1
    go true h = let e : sizes [] ≡ sizes ts = ap sizes (some_same h) in omega arith
    go false h = absurd (some_none (sym h))
subtrees_size (Nullary o) (Node1 op a t) ts h = absurd (some_none (sym h))
subtrees_size (Nullary o) (Node2 op a t u) ts h = absurd (some_none (sym h))
subtrees_size (Unary' o s (more_of-Pattern p end_of-Pattern)) (Node0 op a) ts h = absurd (some_none (sym h))
subtrees_size (Unary' o s (more_of-Pattern p end_of-Pattern)) (Node1 op a t) ts h = go (o == op) h (λ e. subtrees_size p t ts e)
  where
    go : (c : Bool) → (if c then subtrees p t else None) ≡ Some ts → (subtrees p t ≡ Some ts → sizes ts + Spares p ≤ size t) → sizes ts + 1 ≤ size t + 1
    go true h k = let l = k h in omega arith
    go false h k = absurd (some_none (sym h))
subtrees_size (Unary' o s (more_of-Pattern p end_of-Pattern)) (Node2 op a t u) ts h = absurd (some_none (sym h))
subtrees_size (Binary' o s (more_of-Pattern p end_of-Pattern) s' (more_of-Pattern q end_of-Pattern)) (Node0 op a) ts h = absurd (some_none (sym h))
subtrees_size (Binary' o s (more_of-Pattern p end_of-Pattern) s' (more_of-Pattern q end_of-Pattern)) (Node1 op a t) ts h = absurd (some_none (sym h))
subtrees_size (Binary' o s (more_of-Pattern p end_of-Pattern) s' (more_of-Pattern q end_of-Pattern)) (Node2 op a t u) ts h =
    go (o == op) (subtrees p t) (subtrees q u) refl refl h (λ ts e. subtrees_size p t ts e) (λ ts e. subtrees_size q u ts e)
  where
    go : (c : Bool) (x y : Option (List PlainTree)) → subtrees p t ≡ x → subtrees q u ≡ y → (if c then joined x y else None) ≡ Some ts
        → ((ts : List PlainTree) → subtrees p t ≡ Some ts → sizes ts + Spares p ≤ size t) → ((ts : List PlainTree) → subtrees q u ≡ Some ts → sizes ts + Spares q ≤ size u) → sizes ts + 1 ≤ size t + size u + 1
    go false x y e f h k l = absurd (some_none (sym h))
    go true None y e f h k l = absurd (some_none (sym h))
    go true (Some xs) None e f h k l = absurd (some_none (sym h))
    go true (Some xs) (Some ys) e f h k l =
        let a = k xs e in
        let b = l ys f in
        let c : sizes (xs ++ ys) ≡ sizes ts = ap sizes (some_same h) in
        let d = sizes-append xs ys in omega arith

pub subtrees_within : (p : Pattern) (t : PlainTree) (ts : List PlainTree) → subtrees p t ≡ Some ts → sizes ts ≤ size t
subtrees_within p t ts h = let l = subtrees_size p t ts h in omega arith

spares_operator : (p : Pattern) → ((m : ℕ) → p ≡ Leaf m → ⊥) → Spares p ≡ 1
spares_operator (Leaf n) op = absurd (op n refl)
spares_operator (Nullary op') op = refl
spares_operator (Unary' o s p) op = refl
spares_operator (Binary' o s p s' q) op = refl

-- a derivation of the tree from the nonterminal that no other costs less than
pub record IsCheapest (g : Grammar) (d : Derivation) (n : ℕ) (t : PlainTree) : Type 0 where
  pub derives : Derives g d n t
  pub least : (e : Derivation) → Derives g e n t → IsCheaper (cost g e) (cost g d) → ⊥

-- so of kids
pub record AreCheapest (g : Grammar) (ds : Derivations) (ns : List ℕ) (ts : List PlainTree) : Type 0 where
  pub derive : DeriveAll g ds ns ts
  pub least : (es : Derivations) → DeriveAll g es ns ts → IsCheaper (costs g es) (costs g ds) → ⊥

best_cheapest : (g : Grammar) (d : Derivation) (n : ℕ) (t : PlainTree) → IsBest g d n t → IsCheapest g d n t
best_cheapest g d n t b = record { derives = b.derives; least = λ e h c. go e (b.beats e h) c }
  where
    go : (e : Derivation) → (e ≡ d) ⊎ Beats g d e → IsCheaper (cost g e) (cost g d) → ⊥
    go e (inl q) c = cheaper_not_same (cost g e) (cost g d) c (ap (cost g) (sym q))
    go e (inr (inl k)) c = cheaper_not_both (cost g d) (cost g e) k c
    go e (inr (inr k)) c = cheaper_not_same (cost g e) (cost g d) c k.0

module _ (g : Grammar) (within : IsWithinLimits g) (none : HasNoFreeCycle g) where
  -- The nonterminal v stands above d at a node: free chain rules lead from v to d's nonterminal n and nothing that derives the tree from v costs less than d, or all of it costs more.
  abbrev IsAbove : PlainTree → ℕ → ℕ → Derivation → Type 0
  IsAbove t v n d =
      (FreeWalk g v n × ((x : Derivation) → Derives g x v t → IsCheaper (cost g x) (cost g d) → ⊥)) ⊎ ((x : Derivation) → Derives g x v t → IsCheaper (cost g d) (cost g x))

  abbrev AreAbove : PlainTree → Used → ℕ → Derivation → Type 0
  AreAbove t s n d = (v : ℕ) → s v ≡ true → IsAbove t v n d

  -- how short a derivation is with those nonterminals above it
  abbrev IsShort : Derivation → Type 0
  IsShort d = (n : ℕ) (t : PlainTree) (s : Used) → IsCheapest g d n t → AreAbove t s n d → length (list d) + 64 ≤ size t * 64 + unused 64 s

  not_met : (t : PlainTree) (s : Used) (n : ℕ) (d : Derivation) → Derives g d n t → AreAbove t s n d → (b : Bool) → s n ≡ b → s n ≡ false
  not_met t s n d h above false e = e
  not_met t s n d h above true e = absurd (go (above n e))
    where
      go : IsAbove t n n d → ⊥
      go (inl k) = none n k.0
      go (inr k) = cheaper_not_same (cost g d) (cost g d) (k d h) refl

  rules_below : (r n : ℕ) (rule : Rule) → rule_at g r ≡ Some rule → rule.left ≡ n → n < 64
  rules_below zero n rule at left = absurd (some_none (sym at))
  rules_below (suc k) n rule at left = let l = within.lefts k rule at in let m = within.nonterminals in omega arith

  fewer : (r n : ℕ) (rule : Rule) (t : PlainTree) (s : Used) (d : Derivation) → rule_at g r ≡ Some rule → rule.left ≡ n → Derives g d n t → AreAbove t s n d → unused 64 (with_rule n s) < unused 64 s
  fewer r n rule t s d at left h above = unused_less 64 n s (not_met t s n d h above (s n) refl) (rules_below r n rule at left)

  -- the kids of a cheapest derivation are cheapest
  kids_cheapest : (r n : ℕ) (ds : Derivations) (rule : Rule) (t : PlainTree) (ts : List PlainTree) → IsCheapest g (Deriv r ds) n t → rule_at g r ≡ Some rule → rule.left ≡ n → fits rule t ≡ Some ts → DeriveAll g ds (leaves rule.pattern) ts → AreCheapest g ds (leaves rule.pattern) ts
  kids_cheapest r n ds rule t ts c at left fit all = record {
    derive = all;
    least = λ es h k. c.least (Deriv r es) (rule, at, left, (ts, fit, h)) (right_cheaper (rule_cost (rule_at g r)) (rule_cost (rule_at g r)) (costs g es) (costs g ds) refl k);
  }

  first_cheapest : (d : Derivation) (ds : Derivations) (n : ℕ) (ns : List ℕ) (t : PlainTree) (ts : List PlainTree) → AreCheapest g (more d ds) (n ∷ ns) (t ∷ ts) → IsCheapest g d n t
  first_cheapest d ds n ns t ts c = record {
    derives = (c.derive).0;
    least = λ e h k. c.least (more e ds) (h, (c.derive).1) (left_cheaper (cost g e) (cost g d) (costs g ds) (costs g ds) k refl);
  }

  rest_cheapest : (d : Derivation) (ds : Derivations) (n : ℕ) (ns : List ℕ) (t : PlainTree) (ts : List PlainTree) → AreCheapest g (more d ds) (n ∷ ns) (t ∷ ts) → AreCheapest g ds ns ts
  rest_cheapest d ds n ns t ts c = record {
    derive = (c.derive).1;
    least = λ es h k. c.least (more d es) ((c.derive).0, h) (right_cheaper (cost g d) (cost g d) (costs g es) (costs g ds) refl k);
  }

  kids_short : (ds : Derivations) (ns : List ℕ) (ts : List PlainTree) → EachKid IsShort ds → AreCheapest g ds ns ts → length (lists ds) ≤ sizes ts * 64
  kids_short no_more ns ts each c = omega arith
  kids_short (more d ds) [] ts each c = absurd (c.derive)
  kids_short (more d ds) (n ∷ ns) [] each c = absurd (c.derive)
  kids_short (more d ds) (n ∷ ns) (t ∷ ts) each c =
      let h = each.0 n t none_used (first_cheapest d ds n ns t ts c) (λ v e. cc) in
      let k = kids_short ds ns ts each.1 (rest_cheapest d ds n ns t ts c) in
      let l = unused_le 64 none_used in
      let m = length-append (list d) (lists ds) in omega arith

  -- those above a chain rule are above its kid
  above_kid : (r n m : ℕ) (rule : Rule) (t : PlainTree) (e : Derivation) (v : ℕ) → rule_at g r ≡ Some rule → rule.left ≡ n → rule.pattern ≡ Leaf m
      → IsAbove t v n (Deriv r (more e no_more)) ⊎ ((v ≡ n) × ((x : Derivation) → Derives g x v t → IsCheaper (cost g x) (cost g (Deriv r (more e no_more))) → ⊥))
      → IsAbove t v m e
  above_kid r n m rule t e v at left chain above = go (cost_same_or_not (price rule) no_cost) (paid_more rule.cost (cost g e)) above
    where
      is : cost g (Deriv r (more e no_more)) ≡ price rule ⊕ cost g e
      is = chain_cost g r rule e at

      same : price rule ≡ no_cost → cost g (Deriv r (more e no_more)) ≡ cost g e
      same free = is ∙ ap (λ y. y ⊕ cost g e) free ∙ sym (sum_before (cost g e))

      less : ¬ (price rule ≡ no_cost) → (cost g e ≡ price rule ⊕ cost g e) ⊎ IsCheaper (cost g e) (price rule ⊕ cost g e) → IsCheaper (cost g e) (cost g (Deriv r (more e no_more)))
      less paid (inl p) = absurd (paid (sum_same (cost g e) (price rule) (sum_comm (cost g e) (price rule) ∙ sym p)))
      less paid (inr p) = cheaper_same _ _ _ p (sym is)

      -- what costs no less than d costs more than e
      over : (x : Cost) → IsCheaper (cost g e) (cost g (Deriv r (more e no_more))) → (IsCheaper x (cost g (Deriv r (more e no_more))) → ⊥) → IsCheaper (cost g e) x
      over x k l = by_three (cheaper_or_not (cost g (Deriv r (more e no_more))) x)
        where
          by_three : IsCheaper (cost g (Deriv r (more e no_more))) x ⊎ ((cost g (Deriv r (more e no_more)) ≡ x) ⊎ IsCheaper x (cost g (Deriv r (more e no_more)))) → IsCheaper (cost g e) x
          by_three (inl c) = cheaper_trans _ _ _ k c
          by_three (inr (inl c)) = cheaper_same _ _ _ k c
          by_three (inr (inr c)) = absurd (l c)

      go : (price rule ≡ no_cost) ⊎ ¬ (price rule ≡ no_cost) → (cost g e ≡ price rule ⊕ cost g e) ⊎ IsCheaper (cost g e) (price rule ⊕ cost g e)
          → IsAbove t v n (Deriv r (more e no_more)) ⊎ ((v ≡ n) × ((x : Derivation) → Derives g x v t → IsCheaper (cost g x) (cost g (Deriv r (more e no_more))) → ⊥))
          → IsAbove t v m e
      go (inl free) p (inl (inl (w, l))) = inl (
        walk_further w (last {r = r} (record { rule = rule; numbered = at; left = left; chain = chain; free = free })),
        λ x h c. l x h (cheaper_same _ _ _ c (sym (same free))),
      )
      go (inr paid) p (inl (inl (w, l))) = inr (λ x h. over (cost g x) (less paid p) (l x h))
      go (inl free) p (inl (inr l)) = inr (λ x h. same_cheaper _ _ _ (sym (same free)) (l x h))
      go (inr paid) p (inl (inr l)) = inr (λ x h. cheaper_trans _ _ _ (less paid p) (l x h))
      go (inl free) p (inr (q, l)) = inl (
        subst (λ y. FreeWalk g y m) (sym q) (last {r = r} (record { rule = rule; numbered = at; left = left; chain = chain; free = free })),
        λ x h c. l x h (cheaper_same _ _ _ c (sym (same free))),
      )
      go (inr paid) p (inr (q, l)) = inr (λ x h. over (cost g x) (less paid p) (l x h))

  above_chain : (r n m : ℕ) (rule : Rule) (t : PlainTree) (s : Used) (e : Derivation) → rule_at g r ≡ Some rule → rule.left ≡ n → rule.pattern ≡ Leaf m
      → IsCheapest g (Deriv r (more e no_more)) n t → AreAbove t s n (Deriv r (more e no_more)) → AreAbove t (with_rule n s) m e
  above_chain r n m rule t s e at left chain c above v u = above_kid r n m rule t e v at left chain (go (true_or (v == n) (s v) u))
    where
      go : ((v == n) ≡ true) ⊎ (s v ≡ true) → IsAbove t v n (Deriv r (more e no_more)) ⊎ ((v ≡ n) × ((x : Derivation) → Derives g x v t → IsCheaper (cost g x) (cost g (Deriv r (more e no_more))) → ⊥))
      go (inl q) = let same = eqb-true v n q in inr (same, λ x h k. c.least x (subst (λ y. Derives g x y t) same h) k)
      go (inr q) = inl (above v q)

  short : (d : Derivation) → IsShort d
  short = by_kids IsShort step_of
    where
      step_of : (r : ℕ) (ds : Derivations) → EachKid IsShort ds → IsShort (Deriv r ds)
      step_of r ds each n t s c above = with_rule_of c.derives
        where
          with_rule_of : Derives g (Deriv r ds) n t → length (list (Deriv r ds)) + 64 ≤ size t * 64 + unused 64 s
          with_rule_of (rule, at, left, (ts, fit, all)) = go (chain_or_not rule.pattern)
            where
              less : unused 64 (with_rule n s) < unused 64 s
              less = fewer r n rule t s (Deriv r ds) at left c.derives above

              with_kid : (m : ℕ) → rule.pattern ≡ Leaf m → ((e : Derivation) × (ds ≡ more e no_more) × Derives g e m t × IsShort e) → length (list (Deriv r ds)) + 64 ≤ size t * 64 + unused 64 s
              with_kid m p (e, is, derives, rec) =
                  let c' : IsCheapest g (Deriv r (more e no_more)) n t = subst (λ x. IsCheapest g (Deriv r x) n t) is c in
                  let above' : AreAbove t s n (Deriv r (more e no_more)) = subst (λ x. AreAbove t s n (Deriv r x)) is above in
                  let kid : IsCheapest g e m t = record {
                    derives = derives;
                    least = λ x h k. c'.least (Deriv r (more x no_more))
                        (rule, at, left, (t ∷ [], fit ∙ ap (λ (xs : List PlainTree). Some xs) (fits_chain rule t m ts p fit), subst (λ ns. DeriveAll g (more x no_more) ns (t ∷ [])) (sym (ap leaves p)) (h, tt)))
                        (right_cheaper (rule_cost (rule_at g r)) (rule_cost (rule_at g r)) (cost g x ⊕ no_cost) (cost g e ⊕ no_cost) refl (left_cheaper (cost g x) (cost g e) no_cost no_cost k refl));
                  } in
                  let h = rec m t (with_rule n s) kid (above_chain r n m rule t s e at left p c' above') in
                  let l : length (lists ds) ≡ length (list e ++ []) = ap (λ x. length (lists x)) is in
                  let k = length-append (list e) [] in
                  let f = less in omega arith

              go : ((m : ℕ) × (rule.pattern ≡ Leaf m)) ⊎ ((m : ℕ) → rule.pattern ≡ Leaf m → ⊥) → length (list (Deriv r ds)) + 64 ≤ size t * 64 + unused 64 s
              go (inl (m, p)) =
                  let one = fits_chain rule t m ts p fit in
                  with_kid m p (kid_of g t IsShort ds m (subst (λ xs. DeriveAll g ds (m ∷ []) xs) one (subst (λ ns. DeriveAll g ds ns ts) (ap leaves p) all)) each)
              go (inr op) =
                  let h = kids_short ds (leaves rule.pattern) ts each (kids_cheapest r n ds rule t ts c at left fit all) in
                  let k = subtrees_size rule.pattern t ts (fits_subtrees rule t ts fit) in
                  let q = spares_operator rule.pattern op in
                  let f = less in omega arith

  all_short : (ds : Derivations) → EachKid IsShort ds
  all_short no_more = tt
  all_short (more d ds) = (short d, all_short ds)

  pub cheapest_short : (d : Derivation) (n : ℕ) (t : PlainTree) → IsCheapest g d n t → length (list d) ≤ size t * 64
  cheapest_short d n t c = let h = short d n t none_used c (λ v e. cc) in let l = unused_le 64 none_used in omega arith

  pub cheapest_kids_short : (ds : Derivations) (ns : List ℕ) (ts : List PlainTree) → AreCheapest g ds ns ts → length (lists ds) ≤ sizes ts * 64
  cheapest_kids_short ds ns ts c = kids_short ds ns ts (all_short ds) c

pub best_is_short : BestIsShort
best_is_short g n t d within none b = cheapest_short g within none d n t (best_cheapest g d n t b)

-- what costs no more than so many rules
module _ (g : Grammar) (small : HasSmallCosts g) where
  small_more : (b : ℕ) (c : Cost) (k : ℕ) → IsSmall b c → b ≤ k → IsSmall k c
  small_more b c k h l = record { first = let f = h.first in omega arith; low = h.low; high = high c.second h.high }
    where
      high : (x : ℤ) → x ≤ℤ pos b → x ≤ℤ pos k
      high x m = omega (arith, ints)

  small_sum : (a b : ℕ) (c d : Cost) → IsSmall a c → IsSmall b d → IsSmall (a + b) (c ⊕ d)
  small_sum a b c d h k = record { first = let f = h.first in let g = k.first in omega arith; low = low c.second d.second h.low k.low; high = high c.second d.second h.high k.high }
    where
      low : (x y : ℤ) → pos 0 ≤ℤ x → pos 0 ≤ℤ y → pos 0 ≤ℤ (x +ℤ y)
      low x y p q = omega (arith, ints)

      high : (x y : ℤ) → x ≤ℤ pos a → y ≤ℤ pos b → (x +ℤ y) ≤ℤ pos (a + b)
      high x y p q = omega (arith, ints)

  small_none : IsSmall 0 no_cost
  small_none = record { first = omega arith; low = omega (arith, ints); high = omega (arith, ints) }

  small_rule : (r : ℕ) (o : Option Rule) → rule_at g r ≡ o → IsSmall 65535 (rule_cost o)
  small_rule r None at = small_more 0 no_cost 65535 small_none (omega arith)
  small_rule r (Some rule) at = let s = small r rule at in record { first = s.0; low = low (rule.cost).second; high = high (rule.cost).second s.1 }
    where
      low : (x : ℕ) → pos 0 ≤ℤ pos x
      low x = omega (arith, ints)

      high : (x : ℕ) → x ≤ 65535 → pos x ≤ℤ pos 65535
      high x p = omega (arith, ints)

  mutual
    pub cost_small : (d : Derivation) → IsSmall (length (list d) * 65535) (cost g d)
    cost_small (Deriv r ds) = small_more _ _ _ (small_sum 65535 (length (lists ds) * 65535) (rule_cost (rule_at g r)) (costs g ds) (small_rule r (rule_at g r) refl) (costs_small ds)) (omega arith)

    pub costs_small : (ds : Derivations) → IsSmall (length (lists ds) * 65535) (costs g ds)
    costs_small no_more = small_none
    costs_small (more d ds) = small_more _ _ _ (small_sum (length (list d) * 65535) (length (lists ds) * 65535) (cost g d) (costs g ds) (cost_small d) (costs_small ds)) (let l = length-append (list d) (lists ds) in omega arith)

  pub small_within : (a b : ℕ) (c : Cost) → IsSmall (a * 65535) c → a ≤ b * 64 → IsSmall (b * 64 * 65535) c
  small_within a b c h l = small_more (a * 65535) c (b * 64 * 65535) h (omega arith)

pub best_is_small : BestIsSmall
best_is_small g n t d within small none b = small_within g small (length (list d)) (size t) (cost g d) (cost_small g small d) (best_is_short g n t d within none b)
