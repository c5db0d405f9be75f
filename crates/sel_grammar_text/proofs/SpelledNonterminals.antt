-- The names of the nonterminals in a grammar that a text spells.
use Rattle.std.proofs.Common.{◌≡◌, ℕ, suc, zero, List, [], ◌∷◌, ◌++◌, Some, None, Bool, true, false, not, refl, ap, sym, ◌∙◌, subst, cond, eqb, ◌||◌, ◌&&◌, append_assoc, append-nil}
use Rattle.std.specs.Prelude.{slice_get, bytes_eq}
use Rattle.std.specs.List.{flat_map, AllByRecursion}
use Rattle.std.proofs.lemmas.List.{map-append}
use Rattle.std.proofs.lemmas.Option.{same_Some}
use Rattle.sel_grammar.specs.Names.{IsName}
use Rattle.sel_grammar_text.specs.Form.{Patterns, no_patterns, pattern, RuleForm}
use Rattle.sel_grammar_text.specs.Items.{RuleText, Item, RuleItem}
use Rattle.sel_grammar_text.specs.Names.{is_among, operators, rules, nonterminal_words, nonterminals, uses}
use Rattle.sel_grammar_text.specs.Spots.{here}
use Rattle.sel_grammar_text.specs.ItemFaults.{check, check_all}
use Rattle.sel_grammar_text.specs.GrammarText.{items_of}
use Rattle.sel_grammar_text.specs.Meaning.{grammar_of}
use Rattle.sel_grammar_text.specs.SpelledLaws.{HasNonterminalNames, SpelledHasNonterminalNames}
use Rattle.sel_grammar_text.proofs.NamedPatterns.{HaveNames}
use Rattle.sel_grammar_text.proofs.PatternTexts.{bytes_same}
use Rattle.sel_grammar_text.proofs.FormItems.{plain_names, kid_count, preorder}
use Rattle.sel_grammar_text.proofs.FormCuts.{rule_items}
use Rattle.sel_grammar_text.proofs.CheckedItems.{bytes_of, leaves_by, leaves_so, with_by, with_so, to_checked}
use Rattle.sel_grammar_text.proofs.SourceNames.{operators-append, unplaced, or_none}
use Rattle.sel_grammar_text.proofs.GoodRules.{RuleGood, RulesGood}
use Rattle.sel_grammar_text.proofs.SpelledItems.{Known, known}
use Rattle.sel_grammar_text.proofs.SpelledNames.{each_at, is_name, AreNew, same_place, name_there}

all-append : {X : Type 0} (P : X → Type 0) (xs ys : List X) → AllByRecursion P xs → AllByRecursion P ys → AllByRecursion P (xs ++ ys)
all-append P [] ys h k = k
all-append P (x ∷ xs) ys h k = (h.0, all-append P xs ys h.1 k)

-- What is kept where new words come behind names.

pub all_with : (P : List ℕ → Type 0) (names bs : List (List ℕ)) → AllByRecursion P names → AllByRecursion P bs → AllByRecursion P (with_by names bs)
all_with P names [] h k = h
all_with P names (b ∷ bs) h k = all_with P (cond (is_among names b) names (names ++ (b ∷ []))) bs (either (is_among names b)) k.1
  where
    either : (t : Bool) → AllByRecursion P (cond t names (names ++ (b ∷ [])))
    either true = h
    either false = all-append P names (b ∷ []) h (k.0, tt)

new_last : (before names : List (List ℕ)) (b : List ℕ) → AreNew before names → is_among (before ++ names) b ≡ false → AreNew before (names ++ (b ∷ []))
new_last before [] b h e = (subst (λ x. is_among x b ≡ false) (append-nil before) e, tt)
new_last before (x ∷ names) b h e = (h.0, new_last (before ++ (x ∷ [])) names b h.1 (subst (λ y. is_among y b ≡ false) (sym (append_assoc before (x ∷ []) names)) e))

new_with : (names bs : List (List ℕ)) → AreNew [] names → AreNew [] (with_by names bs)
new_with names [] h = h
new_with names (b ∷ bs) h = new_with (cond (is_among names b) names (names ++ (b ∷ []))) bs (either (is_among names b) refl)
  where
    either : (t : Bool) → is_among names b ≡ t → AreNew [] (cond t names (names ++ (b ∷ [])))
    either true e = h
    either false e = new_last [] names b h e

-- The words that name nonterminals are names, and none is an operator's.

abbrev IsFree : List (List ℕ) → List ℕ → Type 0
IsFree ops b = IsName b × (is_among ops b ≡ false)

leaves_free : (ops : List (List ℕ)) (ps : List (List ℕ × ℕ)) → AllByRecursion (λ p. IsName p.0) ps → AllByRecursion (IsFree ops) (leaves_by ops ps)
leaves_free ops [] h = tt
leaves_free ops (p ∷ ps) h = either (eqb p.1 0) (is_among ops p.0) refl (leaves_free ops ps h.1)
  where
    either : (z t : Bool) → is_among ops p.0 ≡ t → AllByRecursion (IsFree ops) (leaves_by ops ps) → AllByRecursion (IsFree ops) (cond (z && not t) (p.0 ∷ leaves_by ops ps) (leaves_by ops ps))
    either true true e r = r
    either true false e r = ((h.0, e), r)
    either false true e r = r
    either false false e r = r

preorder_named : (ps : Patterns) → HaveNames ps → AllByRecursion (λ (p : List ℕ × ℕ). IsName p.0) (preorder ps)
preorder_named no_patterns h = tt
preorder_named (pattern n kids more) h = (is_name n h.0, all-append (λ p. IsName p.0) (preorder kids) (preorder more) (preorder_named kids h.1.0) (preorder_named more h.1.1))

rule_free : (ops nts : List (List ℕ)) (r : RuleForm) (t : RuleText) → RuleGood ops nts r t → is_among ops t.left.bytes ≡ false → AllByRecursion (IsFree ops) (bytes_of (nonterminal_words ops t))
rule_free ops nts r t g h =
    let named : AllByRecursion (λ (p : List ℕ × ℕ). IsName p.0) ((r.root, kid_count r.kids) ∷ preorder r.kids) = (is_name r.root g.named.root, preorder_named r.kids g.named.kids) in
    let inner : AllByRecursion (IsFree ops) (leaves_by ops (plain_names t.pattern)) = leaves_free ops (plain_names t.pattern) (subst (AllByRecursion (λ (p : List ℕ × ℕ). IsName p.0)) (sym g.pattern) named) in (
      (subst IsName (sym g.left) (is_name r.left g.named.left), h),
      subst (AllByRecursion (IsFree ops)) (sym (leaves_so ops t.pattern)) inner,
    )

abbrev LeftsFree : List (List ℕ) → List RuleText → Type 0
LeftsFree ops ts = AllByRecursion (λ (t : RuleText). is_among ops t.left.bytes ≡ false) ts

lefts_free : (ops : List (List ℕ)) (before : List Item) (ts : List RuleText) → operators before ≡ ops → check_all before (rule_items ts) ≡ None → LeftsFree ops ts
lefts_free ops before [] e h = tt
lefts_free ops before (t ∷ ts) e h =
    let o = or_none (check before (RuleItem t)) (check_all (before ++ (RuleItem t ∷ [])) (rule_items ts)) h in
    let c = to_checked before (RuleItem t) o.0 in (
      subst (λ x. is_among x t.left.bytes ≡ false) e (unplaced (is_among (operators before) t.left.bytes) t.left.at c.left),
      lefts_free ops (before ++ (RuleItem t ∷ [])) ts (operators-append before (RuleItem t ∷ []) ∙ append-nil (operators before) ∙ e) o.1,
    )

rules_free : (ops nts : List (List ℕ)) (rs : List RuleForm) (ts : List RuleText) → RulesGood ops nts rs ts → LeftsFree ops ts → AllByRecursion (IsFree ops) (bytes_of (flat_map (nonterminal_words ops) ts))
rules_free ops nts [] [] g h = tt
rules_free ops nts [] (t ∷ ts) g h = absurd g
rules_free ops nts (r ∷ rs) [] g h = absurd g
rules_free ops nts (r ∷ rs) (t ∷ ts) g h =
    subst (AllByRecursion (IsFree ops)) (sym (map-append (λ w. w.bytes) (nonterminal_words ops t) (flat_map (nonterminal_words ops) ts)))
    (all-append (IsFree ops) (bytes_of (nonterminal_words ops t)) (bytes_of (flat_map (nonterminal_words ops) ts)) (rule_free ops nts r t g.0 h.0) (rules_free ops nts rs ts g.1 h.1))

-- Of the grammar.

pub among_at : (bs : List (List ℕ)) (k : ℕ) (b : List ℕ) → slice_get bs k ≡ Some b → is_among bs b ≡ true
among_at [] k b e = cc
among_at (x ∷ bs) zero b e = ap (λ y. bytes_eq y b || is_among bs b) (same_Some x b e) ∙ ap (λ t. t || is_among bs b) (bytes_same b)
among_at (x ∷ bs) (suc k) b e = either (bytes_eq x b) (among_at bs k b e)
  where
    either : (t : Bool) → is_among bs b ≡ true → (t || is_among bs b) ≡ true
    either true h = refl
    either false h = h

nonterminals_free : (items : List Item) → Known items → AllByRecursion (IsFree (operators items)) (nonterminals items)
nonterminals_free items k =
    let ops = operators items in
    let ws = flat_map (nonterminal_words ops) (rules items) in
    let free : AllByRecursion (IsFree ops) (bytes_of ws) = subst (λ ts. AllByRecursion (IsFree ops) (bytes_of (flat_map (nonterminal_words ops) ts))) (sym k.rules_are)
    (rules_free ops (nonterminals items) k.rs k.texts k.good (lefts_free ops k.head k.texts k.operators_are k.pass_rules)) in
    subst (AllByRecursion (IsFree ops)) (sym (with_so [] ws)) (all_with (IsFree ops) [] (bytes_of ws) tt free)

pub nonterminals_new : (items : List Item) → AreNew [] (nonterminals items)
nonterminals_new items =
    let ws = flat_map (nonterminal_words (operators items)) (rules items) in subst (AreNew []) (sym (with_so [] ws)) (new_with [] (bytes_of ws) tt)

have_nonterminal_names : (source : List ℕ) (items : List Item) → Known items → HasNonterminalNames (grammar_of source items)
unfolding grammar_of
have_nonterminal_names source items k =
    let ops = operators items in let nts = nonterminals items in
    record {
      named = λ i name h. (each_at (IsFree ops) nts i name (nonterminals_free items k) h).0;
      differ = λ i j name h l. same_place [] nts i j name (nonterminals_new items) h l;
      apart = λ i j operator h l.
          let w : true ≡ false = sym (among_at ops j operator.name (name_there (uses (rules items)) items j operator l)) ∙ (each_at (IsFree ops) nts i operator.name (nonterminals_free items k) h).1 in
          let z : ⊥ = cc in z;
    }

pub spelled_has_nonterminal_names : SpelledHasNonterminalNames
spelled_has_nonterminal_names source g s =
    subst HasNonterminalNames (sym s.says) (have_nonterminal_names source (items_of s.n source) (known source s.n (here s.n source).at s.whole s.no_fault))
