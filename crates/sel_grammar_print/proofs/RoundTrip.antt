-- A printed grammar is read again.
use Rattle.std.proofs.Common.{◌≡◌, ℕ, suc, List, [], ◌∷◌, ◌++◌, Some, None, false, length, refl, ap, sym, ◌∙◌, subst, arith, cond, eqb, append-nil, inl, map}
use Rattle.std.specs.Prelude.{codes}
use Rattle.std.specs.List.{flat_map}
use Rattle.std.proofs.lemmas.List.{map-append}
use Rattle.sel_grammar.specs.declared.grammar.Operator.{Operator}
use Rattle.sel_grammar.specs.Limits as limits
use Rattle.sel_grammar_text.specs.Tokens.{Token, Name, Start, Percents, End}
use Rattle.sel_grammar_text.specs.Form.{DeclarationForm, StartForm, declaration_tokens, RuleForm, rule_tokens, IsText}
use Rattle.sel_grammar_text.specs.Items.{Word, word, RuleText, Item, StartItem, PercentsItem}
use Rattle.sel_grammar_text.specs.Names.{number_of, operators, rules, leaves, nonterminals, uses, first_use}
use Rattle.sel_grammar_text.specs.Spots.{first, behind, tokens, first_spots, here}
use Rattle.sel_grammar_text.specs.Faults.{fault, fault_at, or_fault}
use Rattle.sel_grammar_text.specs.ItemFaults.{check, check_all}
use Rattle.sel_grammar_text.specs.GrammarText.{nonterminal_uses, left_names, first_absent, end_fault, items_of, SpellsGrammar}
use Rattle.sel_grammar_text.specs.Meaning.{rule_of, operators_of, start_of, grammar_of}
use Rattle.sel_grammar_text.specs.Printing.{name_at}
use Rattle.sel_grammar_print.specs.PrintedGrammar.{operator_names, printed_rule, printed_operator, printed, without_place, IsSameButPlaces, SpellsAgain}
use Rattle.sel_grammar_print.specs.PrintedLaws.{PrintedIsRead}
use Rattle.sel_grammar_text.proofs.NamedPatterns.{IsName}
use Rattle.sel_grammar_text.proofs.FormItems.{head_of, tail_of, places, places_past}
use Rattle.sel_grammar_text.proofs.FormCuts.{fresh, AllFine, rule_texts, rule_items, declarations_items, text_tokens, rule_places, head_items, text_fine}
use Rattle.sel_grammar_text.proofs.WholeTexts.{passes-append, whole_so}
use Rattle.sel_grammar_text.proofs.CheckedItems.{bytes_of}
use Rattle.sel_grammar_text.proofs.SourceNames.{operators-append, rules-append, rules_alone, NamesPass, AllAmong}
use Rattle.sel_grammar_text.proofs.GoodRules.{RulesGood}
use Rattle.sel_grammar_text.proofs.SpelledItems.{Known, lefts_are, uses-append, text_spots, text_items, from_present, head_rules, known}
use Rattle.sel_grammar_print.proofs.PrintedTokens.{CutsInto, cuts_none, cuts_one, cuts_start, cuts_percents}
use Rattle.sel_grammar_print.proofs.SameChecks.{SameRules, same_length, same_leaves, same_nonterminals, same_uses, same_first}
use Rattle.sel_grammar_print.proofs.RulesAgain.{forms_again, cuts_rules, rules_fit, rules_small, same_rules, pass_again, rules_say}
use Rattle.sel_grammar_print.proofs.OperatorsAgain.{term_form, term_forms, OperatorsGood, operators_good, names_so, terms_lawful, terms_start_none, terms_operators, operators_of-append, no_operators, terms_say, terms_pass, with_head, cuts_terms}

terms_use_none : (ops : List (List ℕ)) (ps : List ℕ) (os : List Operator) → nonterminal_uses ops (declarations_items ps (term_forms os)) ≡ []
terms_use_none ops ps [] = refl
terms_use_none ops ps (o ∷ os) = terms_use_none ops (places_past ps (declaration_tokens (term_form o))) os

same_rule_uses : (ops : List (List ℕ)) (ts us : List RuleText) → SameRules ts us → bytes_of (nonterminal_uses ops (rule_items ts)) ≡ bytes_of (nonterminal_uses ops (rule_items us))
same_rule_uses ops [] [] h = refl
same_rule_uses ops [] (u ∷ us) h = absurd h
same_rule_uses ops (t ∷ ts) [] h = absurd h
same_rule_uses ops (t ∷ ts) (u ∷ us) h =
    map-append (λ w. w.bytes) (leaves ops t.pattern) (nonterminal_uses ops (rule_items ts)) ∙ ap (λ x. x ++ bytes_of (nonterminal_uses ops (rule_items ts))) (same_leaves ops t u h.0)
    ∙ ap (λ x. bytes_of (leaves ops u.pattern) ++ x) (same_rule_uses ops ts us h.1) ∙ sym (map-append (λ w. w.bytes) (leaves ops u.pattern) (nonterminal_uses ops (rule_items us)))

same_lefts : (ts us : List RuleText) → SameRules ts us → left_names ts ≡ left_names us
same_lefts [] [] h = refl
same_lefts [] (u ∷ us) h = absurd h
same_lefts (t ∷ ts) [] h = absurd h
same_lefts (t ∷ ts) (u ∷ us) h = ap (λ x. x ∷ left_names ts) h.0.left ∙ ap (λ x. u.left.bytes ∷ x) (same_lefts ts us h.1)

-- From the tokens of the text to its spots.
spots_cut : (all : ℕ) (bytes : List ℕ) (ts : List Token) (rest : List ℕ) → CutsInto bytes ts rest → tokens (first all (length ts) bytes) ≡ ts
spots_cut all _ _ _ (cuts_none bytes) = refl
spots_cut all _ _ _ (cuts_one bytes t ts rest e k) = ap (λ x. x ∷ tokens (first all (length ts) (behind bytes))) e ∙ ap (λ x. t ∷ x) (spots_cut all (behind bytes) ts rest k)

no_end_fault : (items : List Item) (at : ℕ) → eqb (length (rules items)) 0 ≡ false → first_absent (left_names (rules items)) (nonterminal_uses (operators items) items) ≡ None → end_fault items at ≡ None
unfolding end_fault
no_end_fault items at h k = ap (λ b. cond b (Some (fault limits.no_rules at)) (fault_at limits.no_rule (first_absent (left_names (rules items)) (nonterminal_uses (operators items) items)))) h ∙ ap (fault_at limits.no_rule) k

head_operators : (ps : List ℕ) (ds : List DeclarationForm) → operators (head_items ps ds) ≡ operators (declarations_items ps ds)
head_operators ps ds =
    let p = PercentsItem (head_of (places_past ps (flat_map declaration_tokens ds))) in
    operators-append (declarations_items ps ds) (p ∷ []) ∙ append-nil (operators (declarations_items ps ds))

-- The printed text.

whole_cut : (ops nts : List (List ℕ)) (us : List (Word × ℕ)) (os : List Operator) (rs : List RuleForm) (texts : List RuleText) (source name : List ℕ) → IsName name → OperatorsGood us os → RulesGood ops nts rs texts
    → CutsInto (codes "%start " ++ (name ++ (codes "\n" ++ (flat_map printed_operator os ++ (codes "%%\n" ++ flat_map (printed_rule ops nts) (map (rule_of source ops nts) texts))))))
    (text_tokens (StartForm name ∷ term_forms os) (forms_again rs texts) End) []
whole_cut ops nts us os rs texts source name is_name og good =
    let terms = flat_map printed_operator os in let ruled = flat_map (printed_rule ops nts) (map (rule_of source ops nts) texts) in
    let term_tokens = flat_map declaration_tokens (term_forms os) in let ruled_tokens = flat_map rule_tokens (forms_again rs texts) in
    let end : CutsInto [] (End ∷ []) [] = cuts_one [] End [] [] refl (cuts_none []) in
    let one : CutsInto ruled (ruled_tokens ++ (End ∷ [])) [] = subst (λ y. CutsInto y (ruled_tokens ++ (End ∷ [])) []) (append-nil ruled) (cuts_rules ops nts source rs texts [] End [] [] good end) in
    let two : CutsInto (codes "%%\n" ++ ruled) (Percents ∷ (ruled_tokens ++ (End ∷ []))) [] =
    with_head (λ ts. CutsInto ruled ts [] → CutsInto (codes "%%\n" ++ ruled) (Percents ∷ ts) []) ruled_tokens End [] (λ y ys. cuts_percents ruled y ys []) one in
    let three = cuts_terms us os (codes "%%\n" ++ ruled) Percents (ruled_tokens ++ (End ∷ [])) [] og two in
    with_head (λ ts. CutsInto (terms ++ (codes "%%\n" ++ ruled)) ts [] → CutsInto (codes "%start " ++ (name ++ (codes "\n" ++ (terms ++ (codes "%%\n" ++ ruled))))) (Start ∷ Name name ∷ ts) [])
    term_tokens Percents (ruled_tokens ++ (End ∷ [])) (λ y ys. cuts_start name (terms ++ (codes "%%\n" ++ ruled)) y ys [] is_name) three

printed_so : (source : List ℕ) (items : List Item) → printed (grammar_of source items) ≡ codes "%start " ++ (name_at (nonterminals items) (start_of (nonterminals items) items)
    ++ (codes "\n" ++ (flat_map printed_operator (operators_of (uses (rules items)) items) ++ (codes "%%\n"
    ++ flat_map (printed_rule (operator_names (operators_of (uses (rules items)) items)) (nonterminals items)) (map (rule_of source (operators items) (nonterminals items)) (rules items))))))
unfolding printed grammar_of
printed_so source items = refl

one_less : (ts : List Token) (x : Token) (xs : List Token) → (m : ℕ) × (length (ts ++ (x ∷ xs)) ≡ suc m)
one_less [] x xs = (length xs, refl)
one_less (t ∷ ts) x xs = (length (ts ++ (x ∷ xs)), refl)

start_pass : (w : Word) → check [] (StartItem w) ≡ None
unfolding check
start_pass w = refl

percents_pass : (before : List Item) (at : ℕ) → check_all before (PercentsItem at ∷ []) ≡ None
unfolding check
percents_pass before at = refl

printed_cut : (source : List ℕ) (items : List Item) (k : Known items)
    → CutsInto (printed (grammar_of source items)) (text_tokens (StartForm k.start.name ∷ term_forms (operators_of (uses (rules items)) items)) (forms_again k.rs k.texts) End) []
printed_cut source items k =
    let ops = operators items in let nts = nonterminals items in let us = uses (rules items) in let os = operators_of us items in
    let name = k.start.name in
    let ts = text_tokens (StartForm name ∷ term_forms os) (forms_again k.rs k.texts) End in
    let is_name = (lefts_are ops nts k.rs k.texts name k.good k.start.is_left).0 in
    let e : printed (grammar_of source items) ≡ codes "%start " ++ (name ++ (codes "\n" ++ (flat_map printed_operator os ++ (codes "%%\n" ++ flat_map (printed_rule ops nts) (map (rule_of source ops nts) k.texts))))) =
    printed_so source items
    ∙ ap (λ b. codes "%start " ++ (b ++ (codes "\n" ++ (flat_map printed_operator os ++ (codes "%%\n" ++ flat_map (printed_rule (operator_names os) nts) (map (rule_of source ops nts) (rules items))))))) k.start.there
    ∙ ap (λ o. codes "%start " ++ (name ++ (codes "\n" ++ (flat_map printed_operator os ++ (codes "%%\n" ++ flat_map (printed_rule o nts) (map (rule_of source ops nts) (rules items))))))) (names_so us items)
    ∙ ap (λ t. codes "%start " ++ (name ++ (codes "\n" ++ (flat_map printed_operator os ++ (codes "%%\n" ++ flat_map (printed_rule ops nts) (map (rule_of source ops nts) t)))))) k.rules_are in
    subst (λ y. CutsInto y ts []) (sym e) (whole_cut ops nts us os k.rs k.texts source name is_name (operators_good us items k.entries) k.good)

-- What is read of it.

head_passes : (ps : List ℕ) (name : List ℕ) (os : List Operator) → NamesPass [] (operator_names os) → check_all [] (head_items ps (StartForm name ∷ term_forms os)) ≡ None
head_passes ps name os h =
    let w = word (head_of (tail_of ps)) name in
    let terms = declarations_items (places_past ps (declaration_tokens (StartForm name))) (term_forms os) in
    let at = head_of (places_past ps (flat_map declaration_tokens (StartForm name ∷ term_forms os))) in
    passes-append [] (StartItem w ∷ terms) (PercentsItem at ∷ [])
    (ap (λ o. or_fault o (check_all (StartItem w ∷ []) terms)) (start_pass w) ∙ terms_pass (StartItem w ∷ []) (places_past ps (declaration_tokens (StartForm name))) os h)
    (percents_pass (StartItem w ∷ terms) at)

head_uses : (ops : List (List ℕ)) (ps : List ℕ) (name : List ℕ) (os : List Operator) → bytes_of (nonterminal_uses ops (head_items ps (StartForm name ∷ term_forms os))) ≡ name ∷ []
head_uses ops ps name os =
    let w = word (head_of (tail_of ps)) name in
    let terms = declarations_items (places_past ps (declaration_tokens (StartForm name))) (term_forms os) in
    let at = head_of (places_past ps (flat_map declaration_tokens (StartForm name ∷ term_forms os))) in
    ap bytes_of (uses-append ops (StartItem w ∷ terms) (PercentsItem at ∷ []) ∙ append-nil (w ∷ nonterminal_uses ops terms)
    ∙ ap (λ x. w ∷ x) (terms_use_none ops (places_past ps (declaration_tokens (StartForm name))) os))

head_says : (us vs : List (Word × ℕ)) (ps : List ℕ) (name : List ℕ) (os : List Operator) → ((b : List ℕ) → first_use us b ≡ first_use vs b) → OperatorsGood us os
    → operators_of vs (head_items ps (StartForm name ∷ term_forms os)) ≡ os
head_says us vs ps name os e g =
    let w = word (head_of (tail_of ps)) name in
    let terms = declarations_items (places_past ps (declaration_tokens (StartForm name))) (term_forms os) in
    let at = head_of (places_past ps (flat_map declaration_tokens (StartForm name ∷ term_forms os))) in
    operators_of-append vs (StartItem w ∷ terms) (PercentsItem at ∷ []) ∙ append-nil (operators_of vs terms) ∙ terms_say us vs (places_past ps (declaration_tokens (StartForm name))) os e g

-- the items of the printed text
record Again (source : List ℕ) (items : List Item) (k : Known items) (n : ℕ) : Type 0 where
  ps : List ℕ
  is_text : IsText (tokens (first_spots (suc n) (printed (grammar_of source items))))
  fine : AllFine (fresh []) (first_spots (suc n) (printed (grammar_of source items)))
  are : items_of n (printed (grammar_of source items))
      ≡ head_items ps (StartForm k.start.name ∷ term_forms (operators_of (uses (rules items)) items))
      ++ rule_items (rule_texts (rule_places ps (StartForm k.start.name ∷ term_forms (operators_of (uses (rules items)) items))) (forms_again k.rs k.texts))

again : (source : List ℕ) (items : List Item) (k : Known items) (n : ℕ)
    → length (text_tokens (StartForm k.start.name ∷ term_forms (operators_of (uses (rules items)) items)) (forms_again k.rs k.texts) End) ≡ suc n → Again source items k n
again source items k n e =
    let us = uses (rules items) in let os = operators_of us items in
    let text = printed (grammar_of source items) in
    let ds = StartForm k.start.name ∷ term_forms os in let rs = forms_again k.rs k.texts in
    let ts = text_tokens ds rs End in
    let cut : tokens (first_spots (suc n) text) ≡ ts = ap (λ m. tokens (first_spots m text)) (sym e) ∙ spots_cut (length text) text ts [] (printed_cut source items k) in
    let ps = places (first_spots (suc n) text) in
    let og = operators_good us items k.entries in
    let t = text_items text n ds rs End cut (inl refl) in
    record {
      ps = ps;
      is_text = record {
        declarations = ds;
        rules = rs;
        last = End;
        ends = inl refl;
        cut = cut;
        lawful = (tt, terms_lawful us os og);
        small = rules_small (operators items) (nonterminals items) k.rs k.texts k.good;
        one_start = omega (arith, terms_start_none os);
      };
      fine = subst (AllFine (fresh [])) (sym (text_spots text n ds rs End cut)) (text_fine ps ds rs (rules_fit (operators items) (nonterminals items) k.rs k.texts k.good));
      are = t.are ∙ ap (λ x. (head_items ps ds ++ rule_items (rule_texts (rule_places ps ds) rs)) ++ x) (t.at_end refl) ∙ append-nil (head_items ps ds ++ rule_items (rule_texts (rule_places ps ds) rs));
    }

start_so : (nts : List (List ℕ)) (ps : List ℕ) (name : List ℕ) (os : List Operator) (more : List Item) → start_of nts (head_items ps (StartForm name ∷ term_forms os) ++ more) ≡ number_of nts name
start_so nts ps name os more = refl

is_same : (source again : List ℕ) (items others : List Item) → start_of (nonterminals items) items ≡ start_of (nonterminals others) others → operators_of (uses (rules items)) items ≡ operators_of (uses (rules others)) others
    → nonterminals items ≡ nonterminals others
    → map without_place (map (rule_of source (operators items) (nonterminals items)) (rules items)) ≡ map without_place (map (rule_of again (operators others) (nonterminals others)) (rules others))
    → IsSameButPlaces (grammar_of source items) (grammar_of again others)
unfolding grammar_of
is_same source again items others a b c d = record { start = a; operators = b; nonterminals = c; rules = d }

module _ (source : List ℕ) (items : List Item) (k : Known items) (n : ℕ) (a : Again source items k n) where
  abbrev text : List ℕ
  text = printed (grammar_of source items)

  abbrev os : List Operator
  os = operators_of (uses (rules items)) items

  abbrev ds : List DeclarationForm
  ds = StartForm k.start.name ∷ term_forms os

  abbrev texts : List RuleText
  texts = rule_texts (rule_places a.ps ds) (forms_again k.rs k.texts)

  abbrev head : List Item
  head = head_items a.ps ds

  abbrev others : List Item
  others = items_of n text

  head_names : operators head ≡ operators items
  head_names = head_operators a.ps ds ∙ terms_operators (places_past a.ps (declaration_tokens (StartForm k.start.name))) os ∙ names_so (uses (rules items)) items

  rules_read : rules others ≡ texts
  rules_read = ap rules a.are ∙ rules-append head (rule_items texts) ∙ ap (λ x. x ++ rules (rule_items texts)) (head_rules a.ps ds) ∙ (rules_alone texts).0

  names_read : operators others ≡ operators items
  names_read = ap operators a.are ∙ operators-append head (rule_items texts) ∙ ap (λ x. operators head ++ x) (rules_alone texts).1 ∙ append-nil (operators head) ∙ head_names

  same : SameRules k.texts texts
  same = same_rules (operators items) (nonterminals items) (rule_places a.ps ds) k.rs k.texts k.good

  same_items : SameRules (rules items) (rules others)
  same_items = subst (λ x. SameRules x (rules others)) (sym k.rules_are) (subst (SameRules k.texts) (sym rules_read) same)

  nonterminals_read : nonterminals items ≡ nonterminals others
  nonterminals_read = same_nonterminals items others (sym names_read) same_items

  passes : check_all [] others ≡ None
  passes =
      subst (λ x. check_all [] x ≡ None) (sym a.are) (passes-append [] head (rule_items texts)
      (head_passes a.ps k.start.name os (subst (NamesPass []) (sym (names_so (uses (rules items)) items)) k.names))
      (pass_again (operators items) (nonterminals items) k.head head (rule_places a.ps ds) k.rs k.texts (k.operators_are ∙ sym head_names)
      (subst (λ x. SameRules x (rules head)) (sym k.no_rules_first) (subst (SameRules []) (sym (head_rules a.ps ds)) tt)) k.good k.pass_rules))

  some_rule : eqb (length (rules others)) 0 ≡ false
  some_rule = ap (λ m. eqb m 0) (ap length rules_read ∙ sym (same_length k.texts texts same)) ∙ k.some

  all_present : AllAmong (left_names (rules others)) (bytes_of (nonterminal_uses (operators others) others))
  all_present =
      let lefts : left_names k.texts ≡ left_names (rules others) = same_lefts k.texts texts same ∙ ap left_names (sym rules_read) in
      let ops = operators items in
      let used : bytes_of (nonterminal_uses (operators others) others) ≡ k.start.name ∷ bytes_of (nonterminal_uses ops (rule_items k.texts)) =
      ap (λ o. bytes_of (nonterminal_uses o others)) names_read ∙ ap (λ x. bytes_of (nonterminal_uses ops x)) a.are
      ∙ ap bytes_of (uses-append ops head (rule_items texts)) ∙ map-append (λ w. w.bytes) (nonterminal_uses ops head) (nonterminal_uses ops (rule_items texts))
      ∙ ap (λ x. x ++ bytes_of (nonterminal_uses ops (rule_items texts))) (head_uses ops a.ps k.start.name os)
      ∙ ap (λ x. k.start.name ∷ x) (sym (same_rule_uses ops k.texts texts same)) in
      subst (λ x. AllAmong x (bytes_of (nonterminal_uses (operators others) others))) lefts (subst (AllAmong (left_names k.texts)) (sym used) (k.start.is_left, k.present))

  spells : SpellsGrammar text (grammar_of text others)
  spells = record {
    n = n;
    whole = whole_so text n a.is_text a.fine passes;
    no_fault = no_end_fault others (here n text).at some_rule (from_present (left_names (rules others)) (nonterminal_uses (operators others) others) all_present);
    says = refl;
  }

  first_uses : (b : List ℕ) → first_use (uses (rules items)) b ≡ first_use (uses (rules others)) b
  first_uses b = same_first (uses (rules items)) (uses (rules others)) b (same_uses (rules items) (rules others) same_items)

  same_grammar : IsSameButPlaces (grammar_of source items) (grammar_of text others)
  same_grammar =
      let nts = nonterminals items in
      is_same source text items others
      (sym k.start.back ∙ ap (λ x. number_of x k.start.name) nonterminals_read ∙ sym (ap (start_of (nonterminals others)) a.are))
      (sym (head_says (uses (rules items)) (uses (rules others)) a.ps k.start.name os first_uses (operators_good (uses (rules items)) items k.entries))
      ∙ sym (append-nil (operators_of (uses (rules others)) head)) ∙ ap (λ x. operators_of (uses (rules others)) head ++ x) (sym (no_operators (uses (rules others)) texts))
      ∙ sym (operators_of-append (uses (rules others)) head (rule_items texts)) ∙ ap (operators_of (uses (rules others))) (sym a.are))
      nonterminals_read
      (ap (λ x. map without_place (map (rule_of source (operators items) nts) x)) k.rules_are
      ∙ rules_say (operators items) nts source text (rule_places a.ps ds) k.rs k.texts k.good
      ∙ ap (λ x. map without_place (map (rule_of text (operators items) nts) x)) (sym rules_read)
      ∙ ap (λ o. map without_place (map (rule_of text o nts) (rules others))) (sym names_read)
      ∙ ap (λ x. map without_place (map (rule_of text (operators others) x) (rules others))) nonterminals_read)

read_known : (source : List ℕ) (items : List Item) → Known items → SpellsAgain (printed (grammar_of source items)) (grammar_of source items)
read_known source items k =
    let os = operators_of (uses (rules items)) items in
    let l = one_less (flat_map declaration_tokens (StartForm k.start.name ∷ term_forms os)) Percents (flat_map rule_tokens (forms_again k.rs k.texts) ++ (End ∷ [])) in
    let a = again source items k l.0 l.1 in
    record { read = grammar_of (printed (grammar_of source items)) (items_of l.0 (printed (grammar_of source items))); spells = spells source items k l.0 a; same = same_grammar source items k l.0 a }

pub read_again : PrintedIsRead
read_again source g s =
    subst (λ h. SpellsAgain (printed h) h) (sym s.says) (read_known source (items_of s.n source) (known source s.n (here s.n source).at s.whole s.no_fault))
