-- Each grammar that a text spells has rules for its nonterminals, and lawful templates.
use Rattle.std.proofs.Common.{◌≡◌, ℕ, suc, zero, ◌+◌, ◌<◌, List, [], ◌∷◌, ◌++◌, Some, None, Bool, true, false, not, length, refl, ap, sym, ◌∙◌, subst, arith, cond, eqb, ◌||◌, ◌&&◌, append-nil, map}
use Rattle.std.specs.Prelude.{slice_get, bytes_eq, option_map}
use Rattle.std.specs.List.{flat_map, AllByRecursion}
use Rattle.std.proofs.lemmas.List.{length-map, map-append}
use Rattle.std.proofs.lemmas.Option.{slice_get-map}
use Rattle.std.proofs.Math.Numerals.{one-add}
use Rattle.sel_grammar.specs.Complete.{HasLawfulTemplate, IsComplete}
use Rattle.sel_grammar.specs.Fits as fits
use Rattle.sel_grammar_text.specs.declared.pattern.PatternName.TheVariants as pattern
use Rattle.sel_grammar_text.specs.Form.{Patterns, RuleForm}
use Rattle.sel_grammar_text.specs.Items.{Word, TailText, OneLine, Burg, RuleText, Item, RuleItem}
use Rattle.sel_grammar_text.specs.Names.{is_among, number_of, operators, rules, leaves, nonterminal_words, nonterminals, uses}
use Rattle.sel_grammar_text.specs.Patterns.{built_to, built, numbered, pattern_of}
use Rattle.sel_grammar_text.specs.Checks.{begins_reserved, is_past_kid}
use Rattle.sel_grammar_text.specs.TemplateText.{pieces, bad_sign, first_sign, ends_line}
use Rattle.sel_grammar_text.specs.ItemFaults.{check, check_all}
use Rattle.sel_grammar_text.specs.Spots.{here}
use Rattle.sel_grammar_text.specs.GrammarText.{nonterminal_uses, left_names, items_of}
use Rattle.sel_grammar_text.specs.Meaning.{parts_of_tail, rule_of, grammar_of}
use Rattle.sel_grammar_text.specs.SaidForms.{plain_names, kid_count, preorder}
use Rattle.sel_grammar_text.specs.Laws.{SpelledIsComplete}
use Rattle.sel_grammar_text.proofs.FormCuts.{rule_items}
use Rattle.sel_grammar_text.proofs.NameCounts.{HasFewNames, few_names}
use Rattle.sel_grammar_text.proofs.Shape.{leaf_names}
use Rattle.sel_grammar_text.proofs.Known.{IsKnownName, IsKnownRule, IsKnown, all_map}
use Rattle.sel_grammar_text.proofs.WholeItems.{whole_known}
use Rattle.sel_grammar_text.proofs.KnownPatterns.{pattern_fits}
use Rattle.sel_grammar_text.proofs.Lawfulness.{at_place}
use Rattle.sel_grammar_text.proofs.PatternTexts.{same_bytes, bytes_same, numbered_plain, numbered_so, NodesFit, tree_builds}
use Rattle.sel_grammar_text.proofs.GoodRules.{TailGood}
use Rattle.sel_grammar_text.proofs.CheckedItems.{bytes_of, with_so, to_checked, InTemplate}
use Rattle.sel_grammar_text.proofs.SourceNames.{AllAmong, among-split, operators-append, or_none}
use Rattle.sel_grammar_text.proofs.GoodRules.{RuleGood, RulesGood}
use Rattle.sel_grammar_text.proofs.SpelledItems.{Known, known}
use Rattle.sel_grammar_text.proofs.SpelledNames.{each_at, same_place}
use Rattle.sel_grammar_text.proofs.SpelledNonterminals.{all_with, among_at, nonterminals_new}
use Rattle.sel_grammar_text.proofs.LawfulTemplates.{PartsLawful, missed, lawful_parts, no_parts}

-- The leaves of a rule's pattern.

size : {A B : Type 0} (f : A → B) (xs : List A) → length xs < suc (length (map f xs))
size f [] = omega arith
size f (x ∷ xs) = omega (arith, size f xs)

-- no name is left behind the pattern
none_left : (ops nts : List (List ℕ)) (names : List (Word × ℕ)) (n : List ℕ) (kids : Patterns) → plain_names names ≡ (n, kid_count kids) ∷ preorder kids → NodesFit ops nts ((n, kid_count kids) ∷ preorder kids)
    → (built (map (numbered ops nts) names)).1 ≡ []
none_left ops nts names n kids e f =
    let all = map (numbered_plain ops nts) ((n, kid_count kids) ∷ preorder kids) in
    let b = tree_builds ops nts n kids (length all) [] f (size (numbered_plain ops nts) (preorder kids)) in
    let same : map (numbered ops nts) names ≡ all = numbered_so ops nts names ∙ ap (map (numbered_plain ops nts)) e in
    ap (λ x. (built x).1) same ∙ ap (λ x. (built_to (length all) x).1) (sym (append-nil all)) ∙ ap (λ x. x.1) b.is_built

leaf_names_so : (ops nts : List (List ℕ)) (names : List (Word × ℕ)) → AllByRecursion (λ n. is_among ops n.0.bytes ≡ false → n.1 ≡ 0) names → leaf_names (map (numbered ops nts) names) ≡ length (leaves ops names)
leaf_names_so ops nts [] h = refl
leaf_names_so ops nts (n ∷ names) h = by_name (is_among ops n.0.bytes) refl (leaf_names_so ops nts names h.1)
  where
    kept : (z : Bool) → cond (z && not true) (n.0 ∷ leaves ops names) (leaves ops names) ≡ leaves ops names
    kept true = refl
    kept false = refl

    by_name : (b : Bool) → is_among ops n.0.bytes ≡ b → leaf_names (map (numbered ops nts) names) ≡ length (leaves ops names)
        → leaf_names (cond b (pattern.Operator (number_of ops n.0.bytes) n.1) (pattern.Nonterminal (number_of nts n.0.bytes)) ∷ map (numbered ops nts) names)
        ≡ length (cond ((eqb n.1 0) && not b) (n.0 ∷ leaves ops names) (leaves ops names))
    by_name true e r = r ∙ ap length (sym (kept (eqb n.1 0)))
    by_name false e r =
        let q : length (cond ((eqb n.1 0) && not false) (n.0 ∷ leaves ops names) (leaves ops names)) ≡ suc (length (leaves ops names)) =
        ap (λ k. length (cond ((eqb k 0) && not false) (n.0 ∷ leaves ops names) (leaves ops names))) (h.0 e) in
        omega (arith, r, q)

leaves_counted : (bytes : List ℕ) (items : List Item) (r : RuleForm) (t : RuleText) → RuleGood (operators items) (nonterminals items) r t → IsKnownRule (operators items) (nonterminals items) (uses (rules items)) t → HasFewNames t.pattern
    → length (fits.leaves (pattern_of (operators items) (nonterminals items) t.pattern)) ≡ length (leaves (operators items) t.pattern)
leaves_counted bytes items r t g known few =
    let ops = operators items in let nts = nonterminals items in
    let f = pattern_fits bytes items t.pattern known.names few in
    let none : leaf_names (built (map (numbered ops nts) t.pattern)).1 ≡ 0 = ap leaf_names (none_left ops nts t.pattern r.root r.kids g.pattern g.nodes) in
    let so = leaf_names_so ops nts t.pattern (all_map (IsKnownName ops nts (uses (rules items))) (λ n. is_among ops n.0.bytes ≡ false → n.1 ≡ 0) t.pattern (λ n k. k.kidless) known.names) in
    omega (arith, f.leaf_count, none, so)

-- Templates.

template_lawful : (bytes : List ℕ) (items before : List Item) (t : RuleText) → operators before ≡ operators items → check before (RuleItem t) ≡ None → TailGood t.tail
    → length (fits.leaves (pattern_of (operators items) (nonterminals items) t.pattern)) ≡ length (leaves (operators items) t.pattern) → HasLawfulTemplate (rule_of bytes (operators items) (nonterminals items) t)
template_lawful bytes items before t e h good l =
    let m = length (leaves (operators before) t.pattern) in
    let c = to_checked before (RuleItem t) h in
    let p : PartsLawful m (parts_of_tail t.tail) = by_tail t.tail good c.template c.kids c.result in
    let q = subst (λ n. PartsLawful n (parts_of_tail t.tail)) (ap (λ ops. length (leaves ops t.pattern)) e ∙ sym l) p in
    record { kids = q.kids; result = q.result; first = q.first }
  where
    by_tail : (tail : TailText) → TailGood tail → InTemplate (λ r w. cond (begins_reserved w.bytes) (Some w.at) (bad_sign (pieces w.at w.bytes))) t tail
        → InTemplate (λ r w. first_sign (is_past_kid (length (leaves (operators before) r.pattern))) (pieces w.at w.bytes)) t tail
        → InTemplate (λ r w. cond (ends_line (pieces w.at w.bytes)) None (first_sign (λ c. eqb c 99) (pieces w.at w.bytes))) t tail → PartsLawful (length (leaves (operators before) t.pattern)) (parts_of_tail tail)
    by_tail (OneLine w cost) g a b d =
        lawful_parts (length (leaves (operators before) t.pattern)) w.at w.bytes (missed (begins_reserved w.bytes) (bad_sign (pieces w.at w.bytes)) w.at a).1 b d g.0.free
    by_tail (Burg external cost) g a b d = no_parts (length (leaves (operators before) t.pattern))

templates_lawful : (bytes : List ℕ) (items before : List Item) (rs : List RuleForm) (ts : List RuleText) → operators before ≡ operators items → check_all before (rule_items ts) ≡ None
    → RulesGood (operators items) (nonterminals items) rs ts → AllByRecursion (IsKnownRule (operators items) (nonterminals items) (uses (rules items))) ts → AllByRecursion (λ t. HasFewNames t.pattern) ts
    → AllByRecursion (λ t. HasLawfulTemplate (rule_of bytes (operators items) (nonterminals items) t)) ts
templates_lawful bytes items before [] [] e h g known few = tt
templates_lawful bytes items before [] (t ∷ ts) e h g known few = absurd g
templates_lawful bytes items before (r ∷ rs) [] e h g known few = absurd g
templates_lawful bytes items before (r ∷ rs) (t ∷ ts) e h g known few =
    let o = or_none (check before (RuleItem t)) (check_all (before ++ (RuleItem t ∷ [])) (rule_items ts)) h in (
      template_lawful bytes items before t e o.0 g.0.tail (leaves_counted bytes items r t g.0 known.0 few.0),
      templates_lawful bytes items (before ++ (RuleItem t ∷ [])) rs ts (operators-append before (RuleItem t ∷ []) ∙ append-nil (operators before) ∙ e) o.1 g.1 known.1 few.1,
    )

-- Left sides.

among_cons : (x b : List ℕ) (names : List (List ℕ)) → is_among names b ≡ true → is_among (x ∷ names) b ≡ true
among_cons x b names h = either (bytes_eq x b) h
  where
    either : (t : Bool) → is_among names b ≡ true → (t || is_among names b) ≡ true
    either true h = refl
    either false h = h

widened : (x : List ℕ) (names bs : List (List ℕ)) → AllAmong names bs → AllAmong (x ∷ names) bs
widened x names [] h = tt
widened x names (b ∷ bs) h = (among_cons x b names h.0, widened x names bs h.1)

all_self : (xs : List (List ℕ)) → AllAmong xs xs
all_self [] = tt
all_self (x ∷ xs) = (ap (λ t. t || is_among xs x) (bytes_same x), widened x xs xs (all_self xs))

among-append : (names xs ys : List (List ℕ)) → AllAmong names xs → AllAmong names ys → AllAmong names (xs ++ ys)
among-append names [] ys h k = k
among-append names (x ∷ xs) ys h k = (h.0, among-append names xs ys h.1 k)

to_all : (names bs : List (List ℕ)) → AllAmong names bs → AllByRecursion (λ b. is_among names b ≡ true) bs
to_all names [] h = tt
to_all names (b ∷ bs) h = (h.0, to_all names bs h.1)

-- the words of rules are left names, where the leaves of patterns are
words_are_lefts : (lefts ops : List (List ℕ)) (ts : List RuleText) → AllAmong lefts (left_names ts) → AllAmong lefts (bytes_of (nonterminal_uses ops (rule_items ts))) → AllAmong lefts (bytes_of (flat_map (nonterminal_words ops) ts))
words_are_lefts lefts ops [] h k = tt
words_are_lefts lefts ops (t ∷ ts) h k =
    let s = among-split lefts (bytes_of (leaves ops t.pattern)) (bytes_of (nonterminal_uses ops (rule_items ts)))
    (subst (AllAmong lefts) (map-append (λ w. w.bytes) (leaves ops t.pattern) (nonterminal_uses ops (rule_items ts))) k) in
    subst (AllAmong lefts) (sym (map-append (λ w. w.bytes) (nonterminal_words ops t) (flat_map (nonterminal_words ops) ts)))
    (among-append lefts (bytes_of (nonterminal_words ops t)) (bytes_of (flat_map (nonterminal_words ops) ts)) (h.0, s.0) (words_are_lefts lefts ops ts h.1 s.1))

nonterminals_are_lefts : (items : List Item) (k : Known items) → AllByRecursion (λ b. is_among (left_names k.texts) b ≡ true) (nonterminals items)
nonterminals_are_lefts items k =
    let ops = operators items in
    let lefts = left_names k.texts in
    let ws = flat_map (nonterminal_words ops) (rules items) in
    let all : AllAmong lefts (bytes_of ws) = subst (λ ts. AllAmong lefts (bytes_of (flat_map (nonterminal_words ops) ts))) (sym k.rules_are) (words_are_lefts lefts ops k.texts (all_self lefts) k.present) in
    subst (AllByRecursion (λ b. is_among lefts b ≡ true)) (sym (with_so [] ws)) (all_with (λ b. is_among lefts b ≡ true) [] (bytes_of ws) tt (to_all lefts (bytes_of ws) all))

number_there : (names : List (List ℕ)) (b : List ℕ) → is_among names b ≡ true → slice_get names (number_of names b) ≡ Some b
number_there [] b h = cc
number_there (x ∷ names) b h = first (bytes_eq x b) refl h (number_there names b)
  where
    first : (t : Bool) → bytes_eq x b ≡ t → (t || is_among names b) ≡ true → (is_among names b ≡ true → slice_get names (number_of names b) ≡ Some b) → slice_get (x ∷ names) (cond (not t) (1 + number_of names b) 0) ≡ Some b
    first true e k r = ap Some (same_bytes x b e)
    first false e k r = ap (slice_get (x ∷ names)) (one-add (number_of names b)) ∙ r k

-- a rule with the left name
record Found (ts : List RuleText) (b : List ℕ) : Type 0 where
  k : ℕ
  rule : RuleText
  there : slice_get ts k ≡ Some rule
  left : rule.left.bytes ≡ b

found : (ts : List RuleText) (b : List ℕ) → is_among (left_names ts) b ≡ true → Found ts b
found [] b h = absurd (let z : ⊥ = cc in z)
found (t ∷ ts) b h = by_name (bytes_eq t.left.bytes b) refl h (found ts b)
  where
    by_name : (v : Bool) → bytes_eq t.left.bytes b ≡ v → (v || is_among (left_names ts) b) ≡ true → (is_among (left_names ts) b ≡ true → Found ts b) → Found (t ∷ ts) b
    by_name true e h f = record { k = 0; rule = t; there = refl; left = same_bytes t.left.bytes b e }
    by_name false e h f = let r = f h in record { k = suc r.k; rule = r.rule; there = r.there; left = r.left }

at_below : (xs : List (List ℕ)) (n : ℕ) → n < length xs → (x : List ℕ) × (slice_get xs n ≡ Some x)
at_below [] n h = absurd (omega (arith, h))
at_below (x ∷ xs) zero h = (x, refl)
at_below (x ∷ xs) (suc n) h = at_below xs n (omega (arith, h))

-- Of the grammar.

some_of : (n : ℕ) → eqb n 0 ≡ false → 0 < n
some_of n h = grind (arith, h)

complete : (source : List ℕ) (items : List Item) → Known items → IsKnown items → AllByRecursion (λ t. HasFewNames t.pattern) (rules items) → IsComplete (grammar_of source items)
unfolding grammar_of
complete source items k known few =
    let ops = operators items in let nts = nonterminals items in
    let f = rule_of source ops nts in
    let some = some_of (length k.texts) k.some in
    let count : length (map f (rules items)) ≡ length k.texts = length-map (rules items) f ∙ ap length k.rules_are in
    record {
      some = omega (arith, some, count);
      lefts = λ n below.
          let name = at_below nts n below in
          let r = found k.texts name.0 (each_at (λ b. is_among (left_names k.texts) b ≡ true) nts n name.0 (nonterminals_are_lefts items k) name.1) in (
            r.k,
            (
              f r.rule,
              (
                ap (λ ts. slice_get (map f ts) r.k) k.rules_are ∙ slice_get-map f k.texts r.k ∙ ap (option_map f) r.there,
                ap (number_of nts) r.left ∙ same_place [] nts (number_of nts name.0) n name.0 (nonterminals_new items) (number_there nts name.0 (among_at nts n name.0 name.1)) name.1,
              ),
            ),
          );
      templates = at_place (λ t. HasLawfulTemplate (f t)) HasLawfulTemplate f (rules items) (λ t h. h)
          (subst (AllByRecursion (λ t. HasLawfulTemplate (f t))) (sym k.rules_are)
          (templates_lawful source items k.head k.rs k.texts k.operators_are k.pass_rules k.good (subst (AllByRecursion (IsKnownRule ops nts (uses (rules items)))) k.rules_are known.rules_known)
          (subst (AllByRecursion (λ t. HasFewNames t.pattern)) k.rules_are few)));
    }

pub spelled_complete : SpelledIsComplete
spelled_complete bytes g s =
    subst IsComplete (sym s.says)
    (complete bytes (items_of s.n bytes) (known bytes s.n (here s.n bytes).at s.whole s.no_fault) (whole_known bytes s.n s.whole) (few_names bytes s.n s.whole))
