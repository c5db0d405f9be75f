-- What is known of an item that passed its checks.
use Rattle.std.proofs.Common.{◌≡◌, ℕ, ◌≤◌, List, [], ◌∷◌, ◌++◌, Option, Some, None, Bool, true, false, length, refl, arith, cond, ◌||◌}
use Rattle.std.specs.Prelude.{nat_lt, nat_le}
use Rattle.std.specs.List.{AllByRecursion}
use Rattle.std.proofs.Common.{length-append}
use Rattle.sel_grammar.specs.Limits as limits
use Rattle.sel_grammar.specs.Limits.{most_kids, most_nonterminals}
use Rattle.sel_grammar_text.specs.declared.fault.Fault.{Fault}
use Rattle.sel_grammar_text.specs.Items.{Word, Item}
use Rattle.sel_grammar_text.specs.Names.{is_among, first_use, with_words}
use Rattle.sel_grammar_text.specs.Faults.{fault_at, or_fault}
use Rattle.sel_grammar_text.specs.Checks as checks
use Rattle.sel_grammar_text.specs.Checks.{past_most, first_wrong_kids, has_wrong_kids, differs}
use Rattle.sel_grammar_text.specs.ItemFaults.{check}
use Rattle.sel_grammar_text.proofs.NumberStays.{HasKidsRight}

-- each check gave nothing
pub record Passes (before : List Item) (item : Item) : Type 0 where
  pub duplicate_term : checks.duplicate_term before item ≡ None
  pub too_many_items : checks.too_many_items before item ≡ None
  pub term_on_left : checks.term_on_left before item ≡ None
  pub too_many_nonterminals : checks.too_many_nonterminals before item ≡ None
  pub arity : checks.arity before item ≡ None
  pub template_form : checks.template_form before item ≡ None
  pub kid_number : checks.kid_number before item ≡ None
  pub result_in_fragment : checks.result_in_fragment before item ≡ None
  pub range_place : checks.range_place before item ≡ None
  pub cost_large : checks.cost_large before item ≡ None

both_none : (k : ℕ) (o : Option ℕ) (p : Option Fault) → or_fault (fault_at k o) p ≡ None → (o ≡ None) × (p ≡ None)
both_none k None p h = (refl, h)
both_none k (Some at) p h = absurd (cc)

one_none : (k : ℕ) (o : Option ℕ) → fault_at k o ≡ None → o ≡ None
one_none k None h = refl
one_none k (Some at) h = absurd (cc)

pub passes : (before : List Item) (item : Item) → check before item ≡ None → Passes before item
unfolding check
passes before item h =
    let a = both_none limits.duplicate_term (checks.duplicate_term before item) _ h in
    let b = both_none limits.too_many (checks.too_many_items before item) _ a.1 in
    let c = both_none limits.term_on_left (checks.term_on_left before item) _ b.1 in
    let d = both_none limits.too_many (checks.too_many_nonterminals before item) _ c.1 in
    let e = both_none limits.arity (checks.arity before item) _ d.1 in
    let f = both_none limits.template_form (checks.template_form before item) _ e.1 in
    let g = both_none limits.kid_number (checks.kid_number before item) _ f.1 in
    let i = both_none limits.result_in_fragment (checks.result_in_fragment before item) _ g.1 in
    let j = both_none limits.range_place (checks.range_place before item) _ i.1 in
    record {
      duplicate_term = a.0;
      too_many_items = b.0;
      term_on_left = c.0;
      too_many_nonterminals = d.0;
      arity = e.0;
      template_form = f.0;
      kid_number = g.0;
      result_in_fragment = i.0;
      range_place = j.0;
      cost_large = one_none limits.cost_large (checks.cost_large before item) j.1;
    }

-- what the check of the numbers of kids lets through
pub record KidsPass (ops : List (List ℕ)) (names : List (Word × ℕ)) : Type 0 where
  pub right : HasKidsRight ops names
  pub few : AllByRecursion (λ n. n.1 ≤ most_kids) names

pub kids_pass : (ops : List (List ℕ)) (earlier names : List (Word × ℕ)) → first_wrong_kids ops earlier names ≡ None → KidsPass ops names
kids_pass ops earlier [] h = record { right = tt; few = tt }
kids_pass ops earlier (n ∷ names) h = go (is_among ops n.0.bytes) refl (has_wrong_kids ops earlier n) refl h (λ k. kids_pass ops (earlier ++ (n ∷ [])) names k)
  where
    first : (b : Bool) → cond b (nat_lt 2 n.1 || differs (first_use earlier n.0.bytes) n.1) (nat_lt 0 n.1) ≡ false → (b ≡ false → n.1 ≡ 0) × (n.1 ≤ 2)
    first true k = ((λ no. absurd (cc)), or_false (nat_lt 2 n.1) refl k)
      where
        or_false : (x : Bool) → nat_lt 2 n.1 ≡ x → (x || differs (first_use earlier n.0.bytes) n.1) ≡ false → n.1 ≤ 2
        or_false true e k = absurd (cc)
        or_false false e k = grind (arith, e)
    first false k = ((λ no. grind (arith, k)), grind (arith, k))

    go : (b : Bool) → is_among ops n.0.bytes ≡ b → (w : Bool) → has_wrong_kids ops earlier n ≡ w → cond w (Some n.0.at) (first_wrong_kids ops (earlier ++ (n ∷ [])) names) ≡ None
        → (first_wrong_kids ops (earlier ++ (n ∷ [])) names ≡ None → KidsPass ops names) → KidsPass ops (n ∷ names)
    go b e true f k more = absurd (cc)
    go b e false f k more =
        let m = more k in
        let o = first (is_among ops n.0.bytes) f in
        record { right = (o.0, m.right); few = (o.1, m.few) }

-- what the check of nonterminals lets through
pub few_words : (names : List (List ℕ)) (words : List Word) → past_most names words ≡ None → length names ≤ most_nonterminals → length (with_words names words) ≤ most_nonterminals
few_words names [] h few = few
few_words names (w ∷ words) h few =
    go (is_among names w.bytes) (nat_le most_nonterminals (length names)) refl h (λ ns k f. few_words ns words k f)
  where
    go : (b t : Bool) → nat_le most_nonterminals (length names) ≡ t → cond b (past_most names words) (cond t (Some w.at) (past_most (names ++ (w.bytes ∷ [])) words)) ≡ None
        → ((ns : List (List ℕ)) → past_most ns words ≡ None → length ns ≤ most_nonterminals → length (with_words ns words) ≤ most_nonterminals)
        → length (with_words (cond b names (names ++ (w.bytes ∷ []))) words) ≤ most_nonterminals
    go true t e k more = more names k few
    go false true e k more = absurd (cc)
    go false false e k more = more (names ++ (w.bytes ∷ [])) k (let l = length-append names (w.bytes ∷ []) in grind (arith, e, l))
