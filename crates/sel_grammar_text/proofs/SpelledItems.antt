-- What is known of the items of a text that spells a grammar.
use Rattle.std.proofs.Common.{◌≡◌, ℕ, suc, ◌+◌, List, [], ◌∷◌, ◌++◌, Option, Some, None, Bool, true, false, not, length, refl, ap, sym, ◌∙◌, subst, arith, cond, eqb, ◌||◌, ◌⊎◌, append_assoc, append-nil, inl, inr, map}
use Rattle.std.specs.Prelude.{bytes_eq}
use Rattle.std.specs.List.{flat_map, AllByRecursion}
use Rattle.std.proofs.lemmas.List.{map-append}
use Rattle.sel_grammar.specs.declared.grammar.Rule.{Rule}
use Rattle.sel_grammar.specs.Limits as limits
use Rattle.sel_grammar_text.specs.Tokens.{Token, Percents, End}
use Rattle.sel_grammar_text.specs.Form.{DeclarationForm, declaration_tokens, RuleForm, rule_tokens}
use Rattle.sel_grammar_text.specs.Items.{Word, RuleText, Item, StartItem, EntryItem, CodeItem, PercentsItem, RuleItem}
use Rattle.sel_grammar_text.specs.Names.{is_among, number_of, operators, rules, leaves, nonterminal_words, with_words, nonterminals}
use Rattle.sel_grammar_text.specs.Spots.{tokens, first_spots, here}
use Rattle.sel_grammar_text.specs.Cutting.{with_spot, cut_on, cutting}
use Rattle.sel_grammar_text.specs.Faults.{fault, fault_at}
use Rattle.sel_grammar_text.specs.ItemFaults.{check_all}
use Rattle.sel_grammar_text.specs.GrammarText.{IsWhole, nonterminal_uses, left_names, first_absent, end_fault, items_of}
use Rattle.sel_grammar_text.specs.Meaning.{rule_of, start_of, grammar_of}
use Rattle.sel_grammar_text.specs.Printing.{AreParts, name_at}
use Rattle.sel_grammar_text.specs.SpelledLaws.{TemplatesAreParts}
use Rattle.sel_grammar_text.proofs.NamedPatterns.{IsName}
use Rattle.sel_grammar_text.proofs.PatternTexts.{same_bytes, bytes_same, name_number}
use Rattle.sel_grammar_text.proofs.FormItems.{head_of, spots_of, places, spots_so, places_past}
use Rattle.sel_grammar_text.proofs.FormCuts.{fresh, AllFine, rule_texts, rule_items, declarations_items, text_tokens, rule_places, head_items, last_spot, text_cut, fine_text}
use Rattle.sel_grammar_text.proofs.WholeTexts.{no_faults, all_fine, all_pass, passes-split}
use Rattle.sel_grammar_text.proofs.CheckedItems.{bytes_of, with_by, with_so}
use Rattle.sel_grammar_text.proofs.SourceNames.{AllLexed, lexed_first, lexed-split, EntriesGood, good-append, good_declarations, operators-append, rules-append, rules_alone, no_rules, NamesPass, names_pass, AllAmong, among-split, words_among}
use Rattle.sel_grammar_text.proofs.GoodRules.{RulesGood, rules_good, templates_good}

-- Nonterminals that have rules.

to_present : (names : List (List ℕ)) (ws : List Word) → first_absent names ws ≡ None → AllAmong names (bytes_of ws)
to_present names [] h = tt
to_present names (w ∷ ws) h = by_test (is_among names w.bytes) refl h (to_present names ws)
  where
    by_test : (b : Bool) → is_among names w.bytes ≡ b → cond b (first_absent names ws) (Some w.at) ≡ None → (first_absent names ws ≡ None → AllAmong names (bytes_of ws)) → AllAmong names (bytes_of (w ∷ ws))
    by_test true e h f = (e, f h)
    by_test false e h f = cc

pub from_present : (names : List (List ℕ)) (ws : List Word) → AllAmong names (bytes_of ws) → first_absent names ws ≡ None
from_present names [] h = refl
from_present names (w ∷ ws) h = ap (λ b. cond b (first_absent names ws) (Some w.at)) h.0 ∙ from_present names ws h.1

pub uses-append : (ops : List (List ℕ)) (xs ys : List Item) → nonterminal_uses ops (xs ++ ys) ≡ nonterminal_uses ops xs ++ nonterminal_uses ops ys
uses-append ops [] ys = refl
uses-append ops (StartItem w ∷ xs) ys = ap (λ x. w ∷ x) (uses-append ops xs ys)
uses-append ops (RuleItem r ∷ xs) ys = ap (λ x. leaves ops r.pattern ++ x) (uses-append ops xs ys) ∙ sym (append_assoc (leaves ops r.pattern) (nonterminal_uses ops xs) (nonterminal_uses ops ys))
uses-append ops (EntryItem name number ∷ xs) ys = uses-append ops xs ys
uses-append ops (CodeItem ∷ xs) ys = uses-append ops xs ys
uses-append ops (PercentsItem at ∷ xs) ys = uses-append ops xs ys

-- a left name is a nonterminal's name
pub lefts_are : (ops nts : List (List ℕ)) (rs : List RuleForm) (ts : List RuleText) (b : List ℕ) → RulesGood ops nts rs ts → is_among (left_names ts) b ≡ true → IsName b × (is_among nts b ≡ true)
lefts_are ops nts [] [] b g h = cc
lefts_are ops nts [] (t ∷ ts) b g h = absurd g
lefts_are ops nts (r ∷ rs) [] b g h = absurd g
lefts_are ops nts (r ∷ rs) (t ∷ ts) b g h = by_test (bytes_eq t.left.bytes b) refl h (lefts_are ops nts rs ts b g.1)
  where
    by_test : (v : Bool) → bytes_eq t.left.bytes b ≡ v → (v || is_among (left_names ts) b) ≡ true → (is_among (left_names ts) b ≡ true → IsName b × (is_among nts b ≡ true)) → IsName b × (is_among nts b ≡ true)
    by_test true e k f =
        let same : r.left ≡ b = sym g.0.left ∙ same_bytes t.left.bytes b e in (subst IsName same g.0.named.left, subst (λ x. is_among nts x ≡ true) same g.0.left_among)
    by_test false e k f = f k

-- the start symbol's name
pub record StartName (nts lefts : List (List ℕ)) (start : ℕ) : Type 0 where
  pub name : List ℕ
  pub there : name_at nts start ≡ name
  pub back : number_of nts name ≡ start
  pub is_left : is_among lefts name ≡ true

named_start : (nts lefts ops : List (List ℕ)) (items : List Item) → first_absent lefts (nonterminal_uses ops items) ≡ None
    → ((w : Word) × ((start_of nts items ≡ number_of nts w.bytes) × (is_among lefts w.bytes ≡ true))) ⊎ (start_of nts items ≡ 0)
named_start nts lefts ops [] h = inr refl
named_start nts lefts ops (StartItem w ∷ items) h = inl (w, (refl, (to_present lefts (w ∷ nonterminal_uses ops items) h).0))
named_start nts lefts ops (RuleItem r ∷ items) h =
    let a = among-split lefts (bytes_of (leaves ops r.pattern)) (bytes_of (nonterminal_uses ops items))
    (subst (AllAmong lefts) (map-append (λ w. w.bytes) (leaves ops r.pattern) (nonterminal_uses ops items)) (to_present lefts (leaves ops r.pattern ++ nonterminal_uses ops items) h)) in
    named_start nts lefts ops items (from_present lefts (nonterminal_uses ops items) a.1)
named_start nts lefts ops (EntryItem name number ∷ items) h = named_start nts lefts ops items h
named_start nts lefts ops (CodeItem ∷ items) h = named_start nts lefts ops items h
named_start nts lefts ops (PercentsItem at ∷ items) h = named_start nts lefts ops items h

first_stays : (b : List ℕ) (names bs : List (List ℕ)) → (rest : List (List ℕ)) × (with_by (b ∷ names) bs ≡ b ∷ rest)
first_stays b names [] = (names, refl)
first_stays b names (x ∷ bs) = by_test (is_among (b ∷ names) x) (first_stays b names bs) (first_stays b (names ++ (x ∷ [])) bs)
  where
    by_test : (v : Bool) → (rest : List (List ℕ)) × (with_by (b ∷ names) bs ≡ b ∷ rest) → (rest : List (List ℕ)) × (with_by (b ∷ (names ++ (x ∷ []))) bs ≡ b ∷ rest)
        → (rest : List (List ℕ)) × (with_by (cond v (b ∷ names) (b ∷ (names ++ (x ∷ [])))) bs ≡ b ∷ rest)
    by_test true p q = p
    by_test false p q = q

-- without a start symbol it is the first rule's left name
first_start : (ops nts lefts : List (List ℕ)) (ts : List RuleText) → with_by [] (bytes_of (flat_map (nonterminal_words ops) ts)) ≡ nts → left_names ts ≡ lefts → (length ts ≡ 0 → ⊥) → StartName nts lefts 0
first_start ops nts lefts [] e l o = absurd (o refl)
first_start ops nts lefts (t ∷ ts) e l o =
    let b = t.left.bytes in
    let f = first_stays b [] (bytes_of (leaves ops t.pattern ++ flat_map (nonterminal_words ops) ts)) in
    let n : nts ≡ b ∷ f.0 = sym e ∙ f.1 in
    record {
      name = b;
      there = ap (λ x. name_at x 0) n;
      back = ap (λ x. number_of x b) n ∙ ap (λ v. cond (not v) (1 + number_of f.0 b) 0) (bytes_same b);
      is_left = subst (λ x. is_among x b ≡ true) l (ap (λ v. v || is_among (left_names ts) b) (bytes_same b));
    }

end_is_none : (ends_so : Bool) (at : ℕ) (o : Option ℕ) → cond ends_so (Some (fault limits.no_rules at)) (fault_at limits.no_rule o) ≡ None → (ends_so ≡ false) × (o ≡ None)
end_is_none true at o h = cc
end_is_none false at None h = (refl, refl)
end_is_none false at (Some p) h = cc

ended : (items : List Item) (at : ℕ) → end_fault items at ≡ None → (eqb (length (rules items)) 0 ≡ false) × (first_absent (left_names (rules items)) (nonterminal_uses (operators items) items) ≡ None)
unfolding end_fault
ended items at h = end_is_none (eqb (length (rules items)) 0) at (first_absent (left_names (rules items)) (nonterminal_uses (operators items) items)) h

-- What a text's items are.
pub record TextItems (source : List ℕ) (n : ℕ) (ds : List DeclarationForm) (rs : List RuleForm) (last : Token) (ps : List ℕ) : Type 0 where
  pub extra : List Item
  pub are : items_of n source ≡ (head_items ps ds ++ rule_items (rule_texts (rule_places ps ds) rs)) ++ extra
  pub no_rules_extra : rules extra ≡ []
  pub no_operators_extra : operators extra ≡ []
  pub good_extra : EntriesGood extra
  pub at_end : last ≡ End → extra ≡ []

cutting_is : (bytes : List ℕ) (k : ℕ) → cut_on (fresh []) (first_spots k bytes) ≡ cutting k bytes
unfolding cutting
cutting_is bytes k = refl

abbrev extra_of : Token → ℕ → List Item
extra_of Percents at = PercentsItem at ∷ []
extra_of t at = []

ended_by : (items : List Item) (last : Token) (at : ℕ) → (last ≡ End) ⊎ (last ≡ Percents) → (with_spot (fresh items) (record { token = last; at = at })).items ≡ items ++ extra_of last at
ended_by items last at (inl e) = subst (λ t. (with_spot (fresh items) (record { token = t; at = at })).items ≡ items ++ extra_of t at) (sym e) (sym (append-nil items))
ended_by items last at (inr e) = subst (λ t. (with_spot (fresh items) (record { token = t; at = at })).items ≡ items ++ extra_of t at) (sym e) refl

extra_plain : (last : Token) (at : ℕ) → (rules (extra_of last at) ≡ []) × ((operators (extra_of last at) ≡ []) × EntriesGood (extra_of last at))
extra_plain Percents at = (refl, (refl, (tt, tt)))
extra_plain t at = (refl, (refl, tt))

pub text_spots : (source : List ℕ) (n : ℕ) (ds : List DeclarationForm) (rs : List RuleForm) (last : Token) → tokens (first_spots (suc n) source) ≡ text_tokens ds rs last
    → first_spots (suc n) source ≡ spots_of (places (first_spots (suc n) source)) (text_tokens ds rs last)
text_spots source n ds rs last e = spots_so (first_spots (suc n) source) (text_tokens ds rs last) e

pub text_items : (source : List ℕ) (n : ℕ) (ds : List DeclarationForm) (rs : List RuleForm) (last : Token) → tokens (first_spots (suc n) source) ≡ text_tokens ds rs last → (last ≡ End) ⊎ (last ≡ Percents)
    → TextItems source n ds rs last (places (first_spots (suc n) source))
text_items source n ds rs last e o =
    let ps = places (first_spots (suc n) source) in
    let items = head_items ps ds ++ rule_items (rule_texts (rule_places ps ds) rs) in
    let s = last_spot ps ds rs last in
    let x = extra_plain last s.at in
    record {
      extra = extra_of last s.at;
      are = ap (λ c. c.items) (sym (cutting_is source (suc n)) ∙ ap (cut_on (fresh [])) (text_spots source n ds rs last e) ∙ text_cut ps ds rs last) ∙ ended_by items last s.at o;
      no_rules_extra = x.0;
      no_operators_extra = x.1.0;
      good_extra = x.1.1;
      at_end = λ z. ap (λ t. extra_of t s.at) z;
    }

pub head_rules : (ps : List ℕ) (ds : List DeclarationForm) → rules (head_items ps ds) ≡ []
head_rules ps ds =
    let p = PercentsItem (head_of (places_past ps (flat_map declaration_tokens ds))) in
    rules-append (declarations_items ps ds) (p ∷ []) ∙ ap (λ x. x ++ []) (no_rules ps ds)

pub text_rules : (source : List ℕ) (n : ℕ) (ds : List DeclarationForm) (rs : List RuleForm) (last : Token) (ps : List ℕ) → TextItems source n ds rs last ps → rules (items_of n source) ≡ rule_texts (rule_places ps ds) rs
text_rules source n ds rs last ps t =
    let texts = rule_texts (rule_places ps ds) rs in
    ap rules t.are ∙ rules-append (head_items ps ds ++ rule_items texts) t.extra ∙ ap (λ x. rules (head_items ps ds ++ rule_items texts) ++ x) t.no_rules_extra
    ∙ append-nil (rules (head_items ps ds ++ rule_items texts)) ∙ rules-append (head_items ps ds) (rule_items texts) ∙ ap (λ x. x ++ rules (rule_items texts)) (head_rules ps ds) ∙ (rules_alone texts).0

text_operators : (source : List ℕ) (n : ℕ) (ds : List DeclarationForm) (rs : List RuleForm) (last : Token) (ps : List ℕ) → TextItems source n ds rs last ps → operators (items_of n source) ≡ operators (head_items ps ds)
text_operators source n ds rs last ps t =
    let texts = rule_texts (rule_places ps ds) rs in
    ap operators t.are ∙ operators-append (head_items ps ds ++ rule_items texts) t.extra ∙ ap (λ x. operators (head_items ps ds ++ rule_items texts) ++ x) t.no_operators_extra
    ∙ append-nil (operators (head_items ps ds ++ rule_items texts)) ∙ operators-append (head_items ps ds) (rule_items texts) ∙ ap (λ x. operators (head_items ps ds) ++ x) (rules_alone texts).1
    ∙ append-nil (operators (head_items ps ds))

good_rule_items : (ts : List RuleText) → EntriesGood (rule_items ts)
good_rule_items [] = tt
good_rule_items (t ∷ ts) = (tt, good_rule_items ts)

-- What is known of a text that spells a grammar, by its items.
pub record Known (items : List Item) : Type 0 where
  pub rs : List RuleForm
  pub texts : List RuleText
  pub head : List Item
  pub rules_are : rules items ≡ texts
  pub good : RulesGood (operators items) (nonterminals items) rs texts
  pub operators_are : operators head ≡ operators items
  pub no_rules_first : rules head ≡ []
  pub pass_rules : check_all head (rule_items texts) ≡ None
  pub entries : EntriesGood items
  pub names : NamesPass [] (operators items)
  pub some : eqb (length texts) 0 ≡ false
  pub start : StartName (nonterminals items) (left_names texts) (start_of (nonterminals items) items)
  pub present : AllAmong (left_names texts) (bytes_of (nonterminal_uses (operators items) (rule_items texts)))

start_name : (items : List Item) (rs : List RuleForm) (texts : List RuleText) → rules items ≡ texts → RulesGood (operators items) (nonterminals items) rs texts → eqb (length texts) 0 ≡ false
    → first_absent (left_names texts) (nonterminal_uses (operators items) items) ≡ None → StartName (nonterminals items) (left_names texts) (start_of (nonterminals items) items)
start_name items rs texts e g some h =
    let ops = operators items in let nts = nonterminals items in
    elim (named_start nts (left_names texts) ops items h) [
      | inl w ↦ record {
        name = w.0.bytes;
        there = ap (name_at nts) w.1.0 ∙ name_number nts w.0.bytes (lefts_are ops nts rs texts w.0.bytes g w.1.1).1;
        back = sym w.1.0;
        is_left = w.1.1;
      }
      | inr z ↦ subst (StartName nts (left_names texts)) (sym z)
          (first_start ops nts (left_names texts) texts (sym (with_so [] (flat_map (nonterminal_words ops) texts)) ∙ ap (λ ts. with_words [] (flat_map (nonterminal_words ops) ts)) (sym e)) refl
          (λ o. let w : true ≡ false = sym (ap (λ k. eqb k 0) o) ∙ some in let y : ⊥ = cc in y))
    ]

middle_present : (lefts ops : List (List ℕ)) (xs ys zs : List Item) → AllAmong lefts (bytes_of (nonterminal_uses ops ((xs ++ ys) ++ zs))) → AllAmong lefts (bytes_of (nonterminal_uses ops ys))
middle_present lefts ops xs ys zs h =
    let a = among-split lefts (bytes_of (nonterminal_uses ops (xs ++ ys))) (bytes_of (nonterminal_uses ops zs))
    (subst (AllAmong lefts) (map-append (λ w. w.bytes) (nonterminal_uses ops (xs ++ ys)) (nonterminal_uses ops zs)) (subst (λ ws. AllAmong lefts (bytes_of ws)) (uses-append ops (xs ++ ys) zs) h)) in
    (among-split lefts (bytes_of (nonterminal_uses ops xs)) (bytes_of (nonterminal_uses ops ys))
    (subst (AllAmong lefts) (map-append (λ w. w.bytes) (nonterminal_uses ops xs) (nonterminal_uses ops ys)) (subst (λ ws. AllAmong lefts (bytes_of ws)) (uses-append ops xs ys) a.0))).1

pub known : (source : List ℕ) (n : ℕ) (at : ℕ) → IsWhole source n → end_fault (items_of n source) at ≡ None → Known (items_of n source)
known source n at whole no_end =
    let x = whole.whole in
    let ds = x.declarations in let rs = x.rules in let last = x.last in
    let ps = places (first_spots (suc n) source) in
    let items = items_of n source in
    let ops = operators items in let nts = nonterminals items in
    let texts = rule_texts (rule_places ps ds) rs in
    let t = text_items source n ds rs last x.cut x.ends in
    let clean = no_faults source n whole in
    let are_rules = text_rules source n ds rs last ps t in
    let are_operators = text_operators source n ds rs last ps t in
    let pass = all_pass source n clean (suc n) (omega arith) in
    let fitted = fine_text ps ds rs last (subst (AllFine (fresh [])) (text_spots source n ds rs last x.cut) (all_fine source n x clean (suc n) (omega arith))) in
    let lexed = lexed-split (flat_map declaration_tokens ds) (Percents ∷ (flat_map rule_tokens rs ++ (last ∷ []))) (subst AllLexed x.cut (lexed_first (length source) (suc n) source)) in
    let lexed_rules = (lexed-split (flat_map rule_tokens rs) (last ∷ []) lexed.1.1).0 in
    let pass_both = (passes-split [] (head_items ps ds ++ rule_items texts) t.extra (subst (λ is. check_all [] is ≡ None) t.are pass)).0 in
    let pass_rules = (passes-split [] (head_items ps ds) (rule_items texts) pass_both).1 in
    let among : AllAmong nts (bytes_of (flat_map (nonterminal_words ops) texts)) = subst (λ ts. AllAmong nts (bytes_of (flat_map (nonterminal_words ops) ts))) are_rules (words_among items) in
    let good = rules_good ops nts (head_items ps ds) (rule_places ps ds) rs (sym are_operators) pass_rules lexed_rules fitted x.small among in
    let e = ended items at no_end in
    let some : eqb (length texts) 0 ≡ false = subst (λ ts. eqb (length ts) 0 ≡ false) are_rules e.0 in
    let absent : first_absent (left_names texts) (nonterminal_uses ops items) ≡ None = subst (λ ts. first_absent (left_names ts) (nonterminal_uses ops items) ≡ None) are_rules e.1 in
    record {
      rs = rs;
      texts = texts;
      head = head_items ps ds;
      rules_are = are_rules;
      good = good;
      operators_are = sym are_operators;
      no_rules_first = head_rules ps ds;
      pass_rules = pass_rules;
      entries = subst EntriesGood (sym t.are) (good-append (head_items ps ds ++ rule_items texts) t.extra
          (good-append (head_items ps ds) (rule_items texts) (good-append (declarations_items ps ds) (PercentsItem (head_of (places_past ps (flat_map declaration_tokens ds))) ∷ []) (good_declarations ps ds lexed.0 x.lawful) (tt, tt)) (good_rule_items texts)) t.good_extra);
      names = names_pass [] items pass;
      some = some;
      start = start_name items rs texts are_rules good some absent;
      present = middle_present (left_names texts) ops (head_items ps ds) (rule_items texts) t.extra
          (subst (λ is. AllAmong (left_names texts) (bytes_of (nonterminal_uses ops is))) t.are (to_present (left_names texts) (nonterminal_uses ops items) absent));
    }

templates_known : (source : List ℕ) (items : List Item) → Known items → AllByRecursion (λ (rule : Rule). AreParts rule.template.parts) (grammar_of source items).rules
unfolding grammar_of
templates_known source items k =
    let ops = operators items in let nts = nonterminals items in
    subst (λ ts. AllByRecursion (λ (rule : Rule). AreParts rule.template.parts) (map (rule_of source ops nts) ts)) (sym k.rules_are) (templates_good ops nts source k.rs k.texts k.good)

pub templates_are_parts : TemplatesAreParts
templates_are_parts source g s =
    subst (λ h. AllByRecursion (λ (rule : Rule). AreParts rule.template.parts) h.rules) (sym s.says) (templates_known source (items_of s.n source) (known source s.n (here s.n source).at s.whole s.no_fault))
