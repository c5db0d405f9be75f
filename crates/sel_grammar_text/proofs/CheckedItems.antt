-- What an item keeps that passes its checks.
use Rattle.std.proofs.Common.{◌≡◌, ℕ, List, [], ◌∷◌, ◌++◌, Option, Some, None, Bool, true, false, not, refl, ap, sym, ◌∙◌, subst, cond, eqb, ◌||◌, ◌&&◌, map}
use Rattle.std.specs.Prelude.{nat_lt, bytes_eq}
use Rattle.std.proofs.lemmas.List.{map-append}
use Rattle.sel_grammar.specs.Limits.{most_kids}
use Rattle.sel_grammar.specs.Limits as limits
use Rattle.sel_grammar_text.specs.Items.{Word, TailText, OneLine, Burg, RuleText, Item}
use Rattle.sel_grammar_text.specs.Names.{is_among, leaves, with_words, first_use}
use Rattle.sel_grammar_text.specs.Checks.{duplicate_term, too_many_items, term_on_left, too_many_nonterminals, differs, has_wrong_kids, first_wrong_kids, arity, template_form, kid_number, result_in_fragment, range_place, cost_large}
use Rattle.sel_grammar_text.specs.Faults.{fault_at, or_fault}
use Rattle.sel_grammar_text.specs.ItemFaults.{check}
use Rattle.sel_grammar_text.specs.declared.fault.Fault.{Fault}
use Rattle.sel_grammar_text.proofs.FormItems.{plain_names}

-- Words by their bytes.
abbrev pub bytes_of : List Word → List (List ℕ)
bytes_of ws = map (λ w. w.bytes) ws

abbrev pub leaves_by : List (List ℕ) → List (List ℕ × ℕ) → List (List ℕ)
leaves_by ops [] = []
leaves_by ops (p ∷ ps) = cond ((eqb p.1 0) && not (is_among ops p.0)) (p.0 ∷ leaves_by ops ps) (leaves_by ops ps)

bytes_cond : (t : Bool) (w : Word) (ws : List Word) (bs : List (List ℕ)) → bytes_of ws ≡ bs → bytes_of (cond t (w ∷ ws) ws) ≡ cond t (w.bytes ∷ bs) bs
bytes_cond true w ws bs h = ap (λ x. w.bytes ∷ x) h
bytes_cond false w ws bs h = h

pub leaves_so : (ops : List (List ℕ)) (names : List (Word × ℕ)) → bytes_of (leaves ops names) ≡ leaves_by ops (plain_names names)
leaves_so ops [] = refl
leaves_so ops (n ∷ names) = bytes_cond ((eqb n.1 0) && not (is_among ops n.0.bytes)) n.0 (leaves ops names) (leaves_by ops (plain_names names)) (leaves_so ops names)

abbrev pub with_by : List (List ℕ) → List (List ℕ) → List (List ℕ)
with_by names [] = names
with_by names (b ∷ bs) = with_by (cond (is_among names b) names (names ++ (b ∷ []))) bs

pub with_so : (names : List (List ℕ)) (ws : List Word) → with_words names ws ≡ with_by names (bytes_of ws)
with_so names [] = refl
with_so names (w ∷ ws) = with_so (cond (is_among names w.bytes) names (names ++ (w.bytes ∷ []))) ws

abbrev pub first_by : List (List ℕ × ℕ) → List ℕ → Option ℕ
first_by [] name = None
first_by (p ∷ ps) name = cond (bytes_eq p.0 name) (Some p.1) (first_by ps name)

pub first_so : (us : List (Word × ℕ)) (name : List ℕ) → first_use us name ≡ first_by (plain_names us) name
first_so [] name = refl
first_so (u ∷ us) name = ap (cond (bytes_eq u.0.bytes name) (Some u.1)) (first_so us name)

abbrev pub wrong_by : List (List ℕ) → List (List ℕ × ℕ) → List ℕ × ℕ → Bool
wrong_by ops earlier p = cond (is_among ops p.0) (nat_lt most_kids p.1 || differs (first_by earlier p.0) p.1) (nat_lt 0 p.1)

pub wrong_so : (ops : List (List ℕ)) (earlier : List (Word × ℕ)) (n : Word × ℕ) → has_wrong_kids ops earlier n ≡ wrong_by ops (plain_names earlier) (n.0.bytes, n.1)
wrong_so ops earlier n = ap (λ o. cond (is_among ops n.0.bytes) (nat_lt most_kids n.1 || differs o n.1) (nat_lt 0 n.1)) (first_so earlier n.0.bytes)

-- no name of these has a wrong number of kids
abbrev pub NoneWrong : List (List ℕ) → List (List ℕ × ℕ) → List (List ℕ × ℕ) → Type 0
NoneWrong ops earlier [] = Unit {0}
NoneWrong ops earlier (p ∷ ps) = (wrong_by ops earlier p ≡ false) × NoneWrong ops (earlier ++ (p ∷ [])) ps

pub seen : (b : Bool) (o : Option ℕ) (at : ℕ) → cond b (Some at) o ≡ None → (b ≡ false) × (o ≡ None)
seen true o at h = cc
seen false o at h = (refl, h)

pub to_none_wrong : (ops : List (List ℕ)) (earlier names : List (Word × ℕ)) → first_wrong_kids ops earlier names ≡ None → NoneWrong ops (plain_names earlier) (plain_names names)
to_none_wrong ops earlier [] h = tt
to_none_wrong ops earlier (n ∷ names) h =
    let r = seen (has_wrong_kids ops earlier n) (first_wrong_kids ops (earlier ++ (n ∷ [])) names) n.0.at h in
    (sym (wrong_so ops earlier n) ∙ r.0, subst (λ x. NoneWrong ops x (plain_names names)) (map-append _ earlier (n ∷ [])) (to_none_wrong ops (earlier ++ (n ∷ [])) names r.1))

-- All checks.

pub record Checked (before : List Item) (item : Item) : Type 0 where
  pub duplicate : duplicate_term before item ≡ None
  pub many : too_many_items before item ≡ None
  pub left : term_on_left before item ≡ None
  pub nonterminals : too_many_nonterminals before item ≡ None
  pub arities : arity before item ≡ None
  pub template : template_form before item ≡ None
  pub kids : kid_number before item ≡ None
  pub result : result_in_fragment before item ≡ None
  pub range : range_place before item ≡ None
  pub costs : cost_large before item ≡ None

both_none : (kind : ℕ) (o : Option ℕ) (f : Option Fault) → or_fault (fault_at kind o) f ≡ None → (o ≡ None) × (f ≡ None)
both_none kind None f h = (refl, h)
both_none kind (Some at) f h = cc

alone_none : (kind : ℕ) (o : Option ℕ) → fault_at kind o ≡ None → o ≡ None
alone_none kind None h = refl
alone_none kind (Some at) h = cc

pub to_checked : (before : List Item) (item : Item) → check before item ≡ None → Checked before item
unfolding check
to_checked before item h =
    let a = both_none limits.duplicate_term (duplicate_term before item) _ h in
    let b = both_none limits.too_many (too_many_items before item) _ a.1 in
    let c = both_none limits.term_on_left (term_on_left before item) _ b.1 in
    let d = both_none limits.too_many (too_many_nonterminals before item) _ c.1 in
    let e = both_none limits.arity (arity before item) _ d.1 in
    let f = both_none limits.template_form (template_form before item) _ e.1 in
    let g = both_none limits.kid_number (kid_number before item) _ f.1 in
    let i = both_none limits.result_in_fragment (result_in_fragment before item) _ g.1 in
    let j = both_none limits.range_place (range_place before item) _ i.1 in
    record {
      duplicate = a.0;
      many = b.0;
      left = c.0;
      nonterminals = d.0;
      arities = e.0;
      template = f.0;
      kids = g.0;
      result = i.0;
      range = j.0;
      costs = alone_none limits.cost_large (cost_large before item) j.1;
    }

abbrev pub InTemplate : (RuleText → Word → Option ℕ) → RuleText → TailText → Type 0
InTemplate f r t = (elim t as (λ _. Option ℕ) [ OneLine w cost ↦ f r w | Burg external cost ↦ None ]) ≡ None
