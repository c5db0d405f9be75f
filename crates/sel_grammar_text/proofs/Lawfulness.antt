-- Each grammar that a text spells keeps its limits, and so do its rules.
use Rattle.std.proofs.Common.{◌≡◌, ℕ, suc, zero, ◌<◌, ◌≤◌, List, [], ◌∷◌, ◌++◌, Option, Some, None, Bool, true, false, length, refl, ap, sym, ◌∙◌, subst, arith, cond, eqb, ◌||◌, map}
use Rattle.std.specs.Prelude.{bytes_eq, slice_get}
use Rattle.std.specs.List.{AllByRecursion}
use Rattle.std.proofs.lemmas.List.{length-map}
use Rattle.std.proofs.lemmas.Slice.Eq.{bytes_eq-Decides}
use Rattle.sel_grammar.specs.Limits as limits
use Rattle.sel_grammar.specs.Limits.{most_operators, most_nonterminals, most_rules, most_kids, IsArity, IsWithinLimits}
use Rattle.sel_grammar.specs.Lawful.{IsRuleOf, IsLawful}
use Rattle.sel_grammar.specs.declared.grammar.Operator.{Operator}
use Rattle.sel_grammar_text.specs.Items.{Word, RuleText, Item, StartItem, EntryItem, CodeItem, PercentsItem, RuleItem}
use Rattle.sel_grammar_text.specs.Names.{is_among, number_of, operators, rules, leaves, nonterminals, uses, first_use}
use Rattle.sel_grammar_text.specs.Faults.{fault, fault_at}
use Rattle.sel_grammar_text.specs.Spots.{here}
use Rattle.sel_grammar_text.specs.GrammarText.{end_fault, items_of, first_absent, left_names, nonterminal_uses}
use Rattle.sel_grammar_text.specs.Meaning.{operators_of, rule_of, start_of}
use Rattle.sel_grammar_text.specs.Laws.{SpelledIsLawful}
use Rattle.sel_grammar_text.proofs.ItemLists.{operator_names_of}
use Rattle.sel_grammar_text.proofs.NameCounts.{HasFewNames, few_names}
use Rattle.sel_grammar_text.proofs.Known.{IsKnownName, IsKnownRule, IsKnown, all_map, all_append}
use Rattle.sel_grammar_text.proofs.WholeItems.{whole_known}
use Rattle.sel_grammar_text.proofs.KnownPatterns.{said, said_so, number_below, rule_known}

-- what holds of each element holds of what one place shows
pub at_place : {X Y : Type 0} (P : X → Type 0) (Q : Y → Type 0) (f : X → Y) (xs : List X) → ((x : X) → P x → Q (f x)) → AllByRecursion P xs → (k : ℕ) (y : Y) → slice_get (map f xs) k ≡ Some y → Q y
at_place P Q f [] g h k y e = absurd (cc)
at_place P Q f (x ∷ xs) g h zero y e = let same : f x ≡ y = cc in subst Q same (g x h.0)
at_place P Q f (x ∷ xs) g h (suc k) y e = at_place P Q f xs g h.1 k y e

both : {X : Type 0} (P Q : X → Type 0) (xs : List X) → AllByRecursion P xs → AllByRecursion Q xs → AllByRecursion (λ x. P x × Q x) xs
both P Q [] h k = tt
both P Q (x ∷ xs) h k = ((h.0, k.0), both P Q xs h.1 k.1)

-- operators have few kids
few_uses : (ops nts : List (List ℕ)) (us : List (Word × ℕ)) (rs : List RuleText) → AllByRecursion (IsKnownRule ops nts us) rs → AllByRecursion (λ n. n.1 ≤ most_kids) (uses rs)
few_uses ops nts us [] h = tt
few_uses ops nts us (r ∷ rs) h =
    all_append (λ n. n.1 ≤ most_kids) r.pattern (uses rs) (all_map (IsKnownName ops nts us) (λ n. n.1 ≤ most_kids) r.pattern (λ n k. k.few) h.0.names) (few_uses ops nts us rs h.1)

few_kids : (us : List (Word × ℕ)) (name : List ℕ) → AllByRecursion (λ n. n.1 ≤ most_kids) us → IsArity (first_use us name)
few_kids [] name h = tt
few_kids (u ∷ us) name h = go (bytes_eq u.0.bytes name) (few_kids us name h.1)
  where
    go : (b : Bool) → IsArity (first_use us name) → IsArity (cond b (Some u.1) (first_use us name))
    go true k = h.0
    go false k = k

arities : (us : List (Word × ℕ)) (items : List Item) → AllByRecursion (λ n. n.1 ≤ most_kids) us → (k : ℕ) (operator : Operator) → slice_get (operators_of us items) k ≡ Some operator → IsArity operator.arity
arities us [] h k operator e = absurd (cc)
arities us (StartItem w ∷ items) h k operator e = arities us items h k operator e
arities us (EntryItem name number ∷ items) h zero operator e = let same : first_use us name.bytes ≡ operator.arity = cc in subst IsArity same (few_kids us name.bytes h)
arities us (EntryItem name number ∷ items) h (suc k) operator e = arities us items h k operator e
arities us (CodeItem ∷ items) h k operator e = arities us items h k operator e
arities us (PercentsItem at ∷ items) h k operator e = arities us items h k operator e
arities us (RuleItem r ∷ items) h k operator e = arities us items h k operator e

-- a left name is among the nonterminals
lefts_among : (ops nts : List (List ℕ)) (us : List (Word × ℕ)) (rs : List RuleText) → AllByRecursion (IsKnownRule ops nts us) rs → (name : List ℕ) → is_among (left_names rs) name ≡ true → is_among nts name ≡ true
lefts_among ops nts us [] h name e = absurd (cc)
lefts_among ops nts us (r ∷ rs) h name e = go (bytes_eq r.left.bytes name) refl e (lefts_among ops nts us rs h.1 name)
  where
    go : (b : Bool) → bytes_eq r.left.bytes name ≡ b → (b || is_among (left_names rs) name) ≡ true → (is_among (left_names rs) name ≡ true → is_among nts name ≡ true) → is_among nts name ≡ true
    go true f e k = ap (is_among nts) (sym ((bytes_eq-Decides r.left.bytes name).0 f)) ∙ h.0.left
    go false f e k = k e

some_nonterminal : (ops nts : List (List ℕ)) (us : List (Word × ℕ)) (rs : List RuleText) → eqb (length rs) 0 ≡ false → AllByRecursion (IsKnownRule ops nts us) rs → 0 < length nts
some_nonterminal ops nts us [] e h = absurd (cc)
some_nonterminal ops nts us (r ∷ rs) e h = let b : number_of nts r.left.bytes < length nts = number_below nts r.left.bytes h.0.left in omega (arith, b)

-- what the end lets through
record EndPasses (items : List Item) : Type 0 where
  some : eqb (length (rules items)) 0 ≡ false
  none_absent : first_absent (left_names (rules items)) (nonterminal_uses (operators items) items) ≡ None

end_passes : (items : List Item) (at : ℕ) → end_fault items at ≡ None → EndPasses items
unfolding end_fault
end_passes items at h = go (eqb (length (rules items)) 0) refl h
  where
    no_place : (o : Option ℕ) → fault_at limits.no_rule o ≡ None → o ≡ None
    no_place None h = refl
    no_place (Some x) h = absurd (cc)

    go : (b : Bool) → eqb (length (rules items)) 0 ≡ b
        → cond b (Some (fault limits.no_rules at)) (fault_at limits.no_rule (first_absent (left_names (rules items)) (nonterminal_uses (operators items) items))) ≡ None → EndPasses items
    go true e h = absurd (cc)
    go false e h = record { some = e; none_absent = no_place (first_absent (left_names (rules items)) (nonterminal_uses (operators items) items)) h }

absent_behind : (names : List (List ℕ)) (xs ys : List Word) → first_absent names (xs ++ ys) ≡ None → first_absent names ys ≡ None
absent_behind names [] ys h = h
absent_behind names (x ∷ xs) ys h = go (is_among names x.bytes) h (absent_behind names xs ys)
  where
    go : (b : Bool) → cond b (first_absent names (xs ++ ys)) (Some x.at) ≡ None → (first_absent names (xs ++ ys) ≡ None → first_absent names ys ≡ None) → first_absent names ys ≡ None
    go true h k = k h
    go false h k = absurd (cc)

-- the start symbol is a nonterminal
start_below : (ops names nts : List (List ℕ)) (items : List Item) → first_absent names (nonterminal_uses ops items) ≡ None → ((name : List ℕ) → is_among names name ≡ true → is_among nts name ≡ true) → 0 < length nts
    → start_of nts items < length nts
start_below ops names nts [] h k some = some
start_below ops names nts (StartItem w ∷ items) h k some = go (is_among names w.bytes) refl h
  where
    go : (b : Bool) → is_among names w.bytes ≡ b → cond b (first_absent names (nonterminal_uses ops items)) (Some w.at) ≡ None → number_of nts w.bytes < length nts
    go true e h = number_below nts w.bytes (k w.bytes e)
    go false e h = absurd (cc)
start_below ops names nts (EntryItem name number ∷ items) h k some = start_below ops names nts items h k some
start_below ops names nts (CodeItem ∷ items) h k some = start_below ops names nts items h k some
start_below ops names nts (PercentsItem at ∷ items) h k some = start_below ops names nts items h k some
start_below ops names nts (RuleItem r ∷ items) h k some = start_below ops names nts items (absent_behind names (leaves ops r.pattern) (nonterminal_uses ops items) h) k some

within : (bytes : List ℕ) (items : List Item) → IsKnown items → EndPasses items → IsWithinLimits (said bytes items)
within bytes items h e =
    let ops = operators items in
    let nts = nonterminals items in
    let us = uses (rules items) in
    let f = rule_of bytes ops nts in
    record {
      start = start_below ops (left_names (rules items)) nts items e.none_absent (lefts_among ops nts us (rules items) h.rules_known) (some_nonterminal ops nts us (rules items) e.some h.rules_known);
      lefts = at_place (IsKnownRule ops nts us) (λ rule. rule.left < length nts) f (rules items) (λ r k. number_below nts r.left.bytes k.left) h.rules_known;
      arities = arities us items (few_uses ops nts us (rules items) h.rules_known);
      operators = subst (λ n. n ≤ most_operators) (sym (sym (length-map (operators_of us items) (λ o. o.name)) ∙ ap length (operator_names_of us items))) h.few_operators;
      nonterminals = h.few_nonterminals;
      rules = subst (λ n. n ≤ most_rules) (sym (length-map (rules items) f)) h.few_rules;
    }

lawful : (bytes : List ℕ) (items : List Item) → IsKnown items → EndPasses items → AllByRecursion (λ r. HasFewNames r.pattern) (rules items) → IsLawful (said bytes items)
lawful bytes items h e few =
    record {
      within = within bytes items h e;
      rules = at_place (λ r. IsKnownRule (operators items) (nonterminals items) (uses (rules items)) r × HasFewNames r.pattern) (IsRuleOf (said bytes items)) (rule_of bytes (operators items) (nonterminals items)) (rules items)
          (λ r k. rule_known bytes items r k.0 k.1)
          (both (IsKnownRule (operators items) (nonterminals items) (uses (rules items))) (λ r. HasFewNames r.pattern) (rules items) h.rules_known few);
    }

pub spelled_lawful : SpelledIsLawful
spelled_lawful bytes g s =
    subst IsLawful (sym (s.says ∙ said_so bytes (items_of s.n bytes)))
    (lawful bytes (items_of s.n bytes) (whole_known bytes s.n s.whole) (end_passes (items_of s.n bytes) (here s.n bytes).at s.no_fault) (few_names bytes s.n s.whole))
