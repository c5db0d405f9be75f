-- Closed under the chain rules, the least candidates that are operator rules alone give the least of all candidates.
use Rattle.std.proofs.Common.{◌≡◌, ℕ, zero, suc, ◌+◌, ◌<◌, ◌⊎◌, inl, inr, List, [], ◌∷◌, length, refl, ap, subst, sym, ◌∙◌, Option, Some, None, slice_get, arith, add-one}
use Rattle.std.specs.Prelude.{replicate}
use Rattle.std.proofs.lemmas.List.{length-replicate}
use Rattle.std.proofs.lemmas.Option.{slice_get_within}
use Rattle.sel_base.proofs.Shared.Choices.{same_or_other}
use Rattle.sel_grammar.specs.Costs.{Cost, ◌⊕◌, paid}
use Rattle.sel_grammar.proofs.CostLaws.{right_cheaper, same_sums}
use Rattle.sel_normal.specs.declared.normal.NormalRule.{NormalRule}
use Rattle.sel_normal.specs.NormalForms.{NormalForm, normal_at}
use Rattle.sel_items.specs.declared.items.Item.{Item}
use Rattle.sel_items.specs.ChainClosing.{IsChained, IsChainedEntry, IsClosedFrom}
use Rattle.sel_items.specs.Offers.{offer_for, operator_offer, Stands, IsBettered}
use Rattle.sel_items.specs.Evaluating.{IsStartTo, IsStart}
use Rattle.sel_items.specs.Follows.{NodeKey, operator_cost, IsCandidate, first_rule, IsEntryOf, IsAbsolute}
use Rattle.sel_items.specs.Entries.{ItemRow, item_at, NoLater}
use Rattle.sel_items.specs.CostBounds.{IsBelow}
use Rattle.sel_normal.proofs.Steps.{some_same, some_none}
use Rattle.sel_items.proofs.Closings.{no_later_trans, new_same, new_other, new_long, sooner}

module _ (normal : NormalForm) (key : NodeKey) (start row : ItemRow) (s : IsStart normal key start) (closed : IsClosedFrom normal start row) where
  -- the start's entry is no later than a candidate that is one operator rule
  start_soon : (n r : ℕ) (c : Cost) → IsCandidate normal key n [] r c → (e : Item) × (item_at start n ≡ Some e) × NoLater e.cost e.rule c r
  start_soon n zero c (rule, at, left, rest) = absurd (some_none (sym at))
  start_soon n (suc j) c (rule, at, left, (k, price, is)) =
      let st = s.stands j rule (slice_get_within normal.rules j rule at) at in
      let so = subst (λ o. Stands (item_at start rule.left) (offer_for rule.cost (j + 1) o)) price st in
      go (item_at start rule.left) refl so
    where
      go : (o : Option Item) → item_at start rule.left ≡ o → Stands o (Some (record { cost = paid rule.cost ⊕ k; rule = j + 1 })) → (e : Item) × (item_at start n ≡ Some e) × NoLater e.cost e.rule c (suc j)
      go None h w = absurd w
      go (Some e) h w = (e, ap (item_at start) (sym left) ∙ h, subst (λ x. NoLater e.cost e.rule x (suc j)) (sym is) (subst (λ x. NoLater e.cost e.rule (paid rule.cost ⊕ k) x) (add-one j) w))

  raised_soon : (p a b : Cost) (r s q : ℕ) → NoLater a r b s → NoLater (p ⊕ a) q (p ⊕ b) q
  raised_soon p a b r s q (inl h) = inl (right_cheaper p p a b refl h)
  raised_soon p a b r s q (inr h) = inr (same_sums p p a b refl h.0, omega arith)

  -- for each candidate there is a way that is no later
  way_of : (qs : List ℕ) (n r : ℕ) (c : Cost) → IsCandidate normal key n qs r c → (x : Cost) × (y : ℕ) × IsChained normal start n qs y x × NoLater x y c (first_rule qs r)
  way_of [] n r c w = let e = start_soon n r c w in ((e.0).cost, (e.0).rule, (e.0, e.1, refl, refl), e.2)
  way_of (q ∷ qs) n r c (rule, at, left, (m, body, (k, w, is))) =
      let v = way_of qs m r k w in
      (paid rule.cost ⊕ v.0, q, (rule, at, left, refl, (m, v.1, body, (v.0, v.2, refl))), subst (λ x. NoLater (paid rule.cost ⊕ v.0) q x q) (sym is) (raised_soon (paid rule.cost) v.0 k v.1 (first_rule qs r) q v.3))

  -- a way is a candidate
  candidate_of : (qs : List ℕ) (n y : ℕ) (x : Cost) → IsChained normal start n qs y x → (r : ℕ) × IsCandidate normal key n qs r x × (first_rule qs r ≡ y)
  candidate_of [] n y x (item, at, is, costs) = (item.rule, subst (λ v. IsCandidate normal key n [] item.rule v) (sym costs) (s.backed n item at), sym is)
  candidate_of (q ∷ qs) n y x (rule, at, left, is, (m, z, body, (k, w, costs))) =
      let v = candidate_of qs m z k w in
      (v.0, (rule, at, left, (m, body, (k, v.1, costs))), sym is)

  chosen_of : (n : ℕ) (o : Option Item) → IsChainedEntry normal start n o → IsEntryOf normal key n o
  chosen_of n None h = λ qs r c w. let v = way_of qs n r c w in h qs v.1 v.0 v.2
  chosen_of n (Some item) h =
      let v = candidate_of h.chains n item.rule item.cost h.candidate in
      record {
        chains = h.chains;
        last = v.0;
        candidate = v.1;
        first = sym v.2;
        least = λ qs r c w.
            let u = way_of qs n r c w in
            no_later_trans item.cost u.0 c item.rule u.1 (first_rule qs r) (h.least qs u.1 u.0 u.2) u.3;
      }

  pub IsAbsolute-closed : IsAbsolute normal key row
  IsAbsolute-closed = record { long = closed.long ∙ s.long; each = λ n h. chosen_of n (item_at row n) (closed.each n) }

-- one operator rule more
stands_sooner : (e f : Item) (o : Option Item) → NoLater f.cost f.rule e.cost e.rule → Stands (Some e) o → Stands (Some f) o
stands_sooner e f None h w = tt
stands_sooner e f (Some o) h w = no_later_trans f.cost e.cost o.cost f.rule e.rule o.rule h w

module _ (normal : NormalForm) (key : NodeKey) (k : ℕ) (rule : NormalRule) (at : slice_get normal.rules k ≡ Some rule) (old new : ItemRow) (i : IsStartTo normal key k old) where
  split : (j : ℕ) → j < k + 1 → (j < k) ⊎ (j ≡ k)
  split j h = grind arith

  -- which stood against
  pub start_stays : Stands (item_at old rule.left) (operator_offer normal key rule (k + 1)) → IsStartTo normal key (k + 1) old
  start_stays here = record { long = i.long; low = i.low; backed = i.backed; stands = λ j r lt w. go j r w (split j lt) }
    where
      go : (j : ℕ) (r : NormalRule) → slice_get normal.rules j ≡ Some r → (j < k) ⊎ (j ≡ k) → Stands (item_at old r.left) (operator_offer normal key r (j + 1))
      go j r w (inl h) = i.stands j r h w
      go j r w (inr q) =
          let same : rule ≡ r = some_same (sym at ∙ ap (slice_get normal.rules) (sym q) ∙ w) in
          subst (λ x. Stands (item_at old r.left) (operator_offer normal key r (x + 1))) (sym q) (subst (λ (x : NormalRule). Stands (item_at old x.left) (operator_offer normal key x (k + 1))) same here)

  -- whose offer was taken
  module _ (b : IsBettered rule.left (operator_offer normal key rule (k + 1)) old new) (inside : rule.left < length old) (low : IsBelow 48 (b.item).cost) where
    abbrev off : Option Item
    off = operator_offer normal key rule (k + 1)

    stands_new : (n : ℕ) (o : Option Item) → Stands (item_at old n) o → Stands (item_at new n) o
    stands_new n None w = tt
    stands_new n (Some o) w = go (item_at old n) refl w
      where
        go : (e : Option Item) → item_at old n ≡ e → Stands e (Some o) → Stands (item_at new n) (Some o)
        go None h w = absurd w
        go (Some e) h w = let s = sooner rule.left off old new b inside n e h in subst (λ x. Stands x (Some o)) (sym s.1) (stands_sooner e s.0 (Some o) s.2 w)

    here_new : Stands (item_at new rule.left) off
    here_new = subst (λ x. Stands x off) (sym (new_same rule.left off old new b inside)) (subst (λ o. Stands (Some (b.item)) o) (sym b.offered_is) (inr (refl, omega arith)))

    numbered : normal_at normal (k + 1) ≡ Some rule
    numbered = rw (add-one) at

    candidate_new : IsCandidate normal key rule.left [] (b.item).rule (b.item).cost
    candidate_new = go (operator_cost normal key rule.body) refl b.offered_is
      where
        go : (o : Option Cost) → operator_cost normal key rule.body ≡ o → offer_for rule.cost (k + 1) o ≡ Some (b.item) → IsCandidate normal key rule.left [] (b.item).rule (b.item).cost
        go None h e = absurd (some_none (sym e))
        go (Some c) h e =
            let same : record { cost = paid rule.cost ⊕ c; rule = k + 1 } ≡ b.item = some_same e in
            subst (λ (x : Item). IsCandidate normal key rule.left [] x.rule x.cost) same (rule, numbered, refl, (c, h, refl))

    pub start_taken : IsStartTo normal key (k + 1) new
    start_taken = record {
      long = new_long rule.left off old new b inside ∙ i.long;
      low = λ n item h. low_of n item h (same_or_other rule.left n);
      backed = λ n item h. backed_of n item h (same_or_other rule.left n);
      stands = λ j r lt w. go j r w (split j lt);
    }
      where
        item_is : (n : ℕ) (item : Item) → item_at new n ≡ Some item → rule.left ≡ n → b.item ≡ item
        item_is n item h q = some_same (sym (new_same rule.left off old new b inside) ∙ ap (item_at new) q ∙ h)

        low_of : (n : ℕ) (item : Item) → item_at new n ≡ Some item → (rule.left ≡ n) ⊎ (rule.left ≡ n → ⊥) → IsBelow 48 item.cost
        low_of n item h (inl q) = subst (λ (x : Item). IsBelow 48 x.cost) (item_is n item h q) low
        low_of n item h (inr d) = i.low n item (sym (new_other rule.left off old new b inside n d) ∙ h)

        backed_of : (n : ℕ) (item : Item) → item_at new n ≡ Some item → (rule.left ≡ n) ⊎ (rule.left ≡ n → ⊥) → IsCandidate normal key n [] item.rule item.cost
        backed_of n item h (inl q) = subst (λ x. IsCandidate normal key x [] item.rule item.cost) q (subst (λ (x : Item). IsCandidate normal key rule.left [] x.rule x.cost) (item_is n item h q) candidate_new)
        backed_of n item h (inr d) = i.backed n item (sym (new_other rule.left off old new b inside n d) ∙ h)

        go : (j : ℕ) (r : NormalRule) → slice_get normal.rules j ≡ Some r → (j < k) ⊎ (j ≡ k) → Stands (item_at new r.left) (operator_offer normal key r (j + 1))
        go j r w (inl h) = stands_new r.left (operator_offer normal key r (j + 1)) (i.stands j r h w)
        go j r w (inr q) =
            let same : rule ≡ r = some_same (sym at ∙ ap (slice_get normal.rules) (sym q) ∙ w) in
            subst (λ x. Stands (item_at new r.left) (operator_offer normal key r (x + 1))) (sym q) (subst (λ (x : NormalRule). Stands (item_at new x.left) (operator_offer normal key x (k + 1))) same here_new)

none_there : (count n : ℕ) → item_at (replicate count None) n ≡ None
none_there zero n = refl
none_there (suc count) zero = refl
none_there (suc count) (suc n) = none_there count n

-- before any rule no nonterminal has an entry
pub empty_start : (normal : NormalForm) (key : NodeKey) → IsStartTo normal key 0 (replicate normal.nonterminals None)
empty_start normal key = record {
  long = length-replicate normal.nonterminals None;
  low = λ n item h. absurd (some_none (sym h ∙ none_there normal.nonterminals n));
  backed = λ n item h. absurd (some_none (sym h ∙ none_there normal.nonterminals n));
  stands = λ j rule h at. absurd (omega arith);
}
