-- What a text's tokens and checks tell of its names.
use Rattle.std.proofs.Common.{◌≡◌, ℕ, suc, zero, ◌+◌, ◌≤◌, List, [], ◌∷◌, ◌++◌, Option, Some, None, Bool, true, false, not, length, take, drop, ◌-◌, refl, ap, sym, ◌∙◌, subst, arith, cond, eqb, ◌||◌, ◌&&◌, append-nil, inl, inr}
use Rattle.std.specs.Prelude.{codes, bytes_eq, nat_le, nat_lt, take_while}
use Rattle.std.specs.List.{flat_map, prefix_len, starts_with, AllByRecursion}
use Rattle.std.specs.Char.{is_ascii_digit}
use Rattle.std.proofs.Math.Numerals.{one-add}
use Rattle.sel_grammar.specs.Limits.{most_operators, most_kids}
use Rattle.sel_grammar.specs.Names.{is_letter, is_name_byte}
use Rattle.sel_grammar_text.specs.Blanks.{skip, behind_pair}
use Rattle.sel_grammar_text.specs.Tokens.{Token, Name, Unclosed, Start, Term, Percents, Code, OpenCode, Colon, Equals, Open, Close, Comma, Semi, Bad, token_of, inside_len, quoted, percent, mark, option_cases}
use Rattle.sel_grammar_text.specs.Form.{Patterns, no_patterns, pattern, Side, below, beside, pattern_tokens, DeclarationForm, StartForm, TermForm, CodeForm, entry_tokens, declaration_tokens, tail_tokens, RuleForm, rule_tokens, IsSmall, IsDeclaration}
use Rattle.sel_grammar_text.specs.Items.{RuleText, Item, StartItem, EntryItem, CodeItem, PercentsItem, RuleItem}
use Rattle.sel_grammar_text.specs.Names.{is_among, operators, rules, nonterminal_words, nonterminals}
use Rattle.sel_grammar_text.specs.Spots.{first, behind, tokens}
use Rattle.sel_grammar_text.specs.Checks.{place_if, differs}
use Rattle.sel_grammar_text.specs.Faults.{or_fault}
use Rattle.sel_grammar_text.specs.ItemFaults.{check, check_all}
use Rattle.sel_grammar_text.specs.declared.fault.Fault.{Fault}
use Rattle.sel_grammar_text.proofs.Printed.{Each}
use Rattle.sel_grammar_text.proofs.NamedPatterns.{IsName, HaveNames}
use Rattle.sel_grammar_text.proofs.PatternTexts.{bytes_same, NodesFit}
use Rattle.sel_grammar_text.proofs.FormItems.{tail_of, places_past}
use Rattle.sel_grammar_text.proofs.FormCuts.{rule_items, entry_items, declarations_items}
use Rattle.sel_grammar_text.proofs.CheckedItems.{bytes_of, leaves_by, with_by, with_so, first_by, NoneWrong, to_checked}

-- Names are names.

abbrev pub Lexed : Token → Type 0
Lexed (Name n) = IsName n
Lexed _ = Unit {0}

choose : (t : Bool) (x y : Token) → Lexed x → Lexed y → Lexed (cond t x y)
choose true x y p q = p
choose false x y p q = q

each_taken : (p : ℕ → Bool) (bytes : List ℕ) → Each p (take_while p bytes)
each_taken p [] = tt
each_taken p (b ∷ bytes) = by_test (p b) refl (each_taken p bytes)
  where
    by_test : (t : Bool) → p b ≡ t → Each p (take_while p bytes) → Each p (take (cond t (1 + prefix_len p bytes) 0) (b ∷ bytes))
    by_test true e r = subst (λ n. Each p (take n (b ∷ bytes))) (sym (one-add (prefix_len p bytes))) (e, r)
    by_test false e r = tt

name_taken : (b : ℕ) (bytes : List ℕ) → is_letter b ≡ true → IsName (take_while is_name_byte (b ∷ bytes))
name_taken b bytes h =
    let t : is_name_byte b ≡ true = ap (λ x. x || is_ascii_digit b) h in
    subst (λ x. IsName (take (cond x (1 + prefix_len is_name_byte bytes) 0) (b ∷ bytes))) (sym t)
    (subst (λ n. IsName (take n (b ∷ bytes))) (sym (one-add (prefix_len is_name_byte bytes))) (h, each_taken is_name_byte bytes))

lexed_option : {X : Type 0} (o : Option X) (t : Token) (f : X → Token) → Lexed t → ((x : X) → Lexed (f x)) → Lexed (option_cases o t f)
lexed_option None t f h k = h
lexed_option (Some x) t f h k = k x

lexed_percent : (bytes : List ℕ) → Lexed (percent bytes)
lexed_percent bytes =
    choose (starts_with eqb bytes (codes "start")) Start _ tt (choose (starts_with eqb bytes (codes "term")) Term _ tt (choose (starts_with eqb bytes (codes "%")) Percents _ tt
    (choose (starts_with eqb bytes (codes "{")) _ (Bad 37) (lexed_option (behind_pair 37 125 (drop 1 bytes)) OpenCode (λ rest. Code (length bytes - length rest - 3)) tt (λ x. tt)) tt)))

lexed_mark : (b : ℕ) → Lexed (mark b)
lexed_mark b =
    choose (eqb b 58) Colon _ tt (choose (eqb b 61) Equals _ tt (choose (eqb b 40) Open _ tt (choose (eqb b 41) Close _ tt (choose (eqb b 44) Comma _ tt (choose (eqb b 59) Semi (Bad b) tt tt)))))

lexed_name : (b : ℕ) (bytes : List ℕ) (t : Bool) (other : Token) → is_letter b ≡ t → Lexed other → Lexed (cond t (Name (take_while is_name_byte (b ∷ bytes))) other)
lexed_name b bytes true other e h = name_taken b bytes e
lexed_name b bytes false other e h = h

lexed_token : (bytes : List ℕ) → Lexed (token_of bytes)
lexed_token [] = tt
lexed_token (b ∷ bytes) =
    lexed_name b bytes (is_letter b) _ refl (choose (is_ascii_digit b) _ _ tt (choose (eqb b 34) (quoted bytes) _ (lexed_option (inside_len false bytes) Unclosed _ tt (λ n. tt))
    (choose (eqb b 37) (percent bytes) (mark b) (lexed_percent bytes) (lexed_mark b))))

abbrev pub AllLexed : List Token → Type 0
AllLexed [] = Unit {0}
AllLexed (t ∷ ts) = Lexed t × AllLexed ts

pub lexed_first : (all n : ℕ) (bytes : List ℕ) → AllLexed (tokens (first all n bytes))
lexed_first all zero bytes = tt
lexed_first all (suc n) bytes = (lexed_token (skip bytes), lexed_first all n (behind bytes))

pub lexed-split : (xs ys : List Token) → AllLexed (xs ++ ys) → AllLexed xs × AllLexed ys
lexed-split [] ys h = (tt, h)
lexed-split (x ∷ xs) ys h = let r = lexed-split xs ys h.1 in ((h.0, r.0), r.1)

lexed_patterns : (side : Side) (ps : Patterns) → AllLexed (pattern_tokens side ps) → HaveNames ps
lexed_patterns below no_patterns h = tt
lexed_patterns beside no_patterns h = tt
lexed_patterns below (pattern n kids more) h =
    let r = lexed-split (pattern_tokens below kids) (pattern_tokens beside more ++ (Close ∷ [])) h.1.1 in
    (h.1.0, (lexed_patterns below kids r.0, lexed_patterns beside more (lexed-split (pattern_tokens beside more) (Close ∷ []) r.1).0))
lexed_patterns beside (pattern n kids more) h =
    let r = lexed-split (pattern_tokens below kids) (pattern_tokens beside more) h.1.1 in (h.1.0, (lexed_patterns below kids r.0, lexed_patterns beside more r.1))

pub record RuleNamed (r : RuleForm) : Type 0 where
  pub left : IsName r.left
  pub root : IsName r.root
  pub kids : HaveNames r.kids

pub lexed_rule : (r : RuleForm) → AllLexed (rule_tokens r) → RuleNamed r
lexed_rule r h = record { left = h.0; root = h.1.1.0; kids = lexed_patterns below r.kids (lexed-split (pattern_tokens below r.kids) (tail_tokens r.tail) h.1.1.1).0 }

-- Entries have names and small numbers.

abbrev pub EntryGood : Item → Type 0
EntryGood (EntryItem name number) = IsName name.bytes × IsSmall number.bytes
EntryGood _ = Unit {0}

abbrev pub EntriesGood : List Item → Type 0
EntriesGood [] = Unit {0}
EntriesGood (i ∷ items) = EntryGood i × EntriesGood items

pub good-append : (xs ys : List Item) → EntriesGood xs → EntriesGood ys → EntriesGood (xs ++ ys)
good-append [] ys h k = k
good-append (x ∷ xs) ys h k = (h.0, good-append xs ys h.1 k)

good_entries : (ps : List ℕ) (es : List (List ℕ × List ℕ)) → AllLexed (entry_tokens es) → AllByRecursion (λ e. IsSmall e.1) es → EntriesGood (entry_items ps es)
good_entries ps [] h k = tt
good_entries ps (e ∷ es) h k = ((h.0, k.0), good_entries (tail_of (tail_of (tail_of ps))) es h.1.1.1 k.1)

pub good_declarations : (ps : List ℕ) (ds : List DeclarationForm) → AllLexed (flat_map declaration_tokens ds) → AllByRecursion IsDeclaration ds → EntriesGood (declarations_items ps ds)
good_declarations ps [] h k = tt
good_declarations ps (StartForm n ∷ ds) h k = (tt, good_declarations (places_past ps (declaration_tokens (StartForm n))) ds h.1.1 k.1)
good_declarations ps (CodeForm n ∷ ds) h k = (tt, good_declarations (places_past ps (declaration_tokens (CodeForm n))) ds h.1 k.1)
good_declarations ps (TermForm es ∷ ds) h k =
    let r = lexed-split (entry_tokens es) (flat_map declaration_tokens ds) h.1 in
    good-append (entry_items (tail_of ps) es) (declarations_items (places_past ps (declaration_tokens (TermForm es))) ds) (good_entries (tail_of ps) es r.0 k.0)
    (good_declarations (places_past ps (declaration_tokens (TermForm es))) ds r.1 k.1)

-- Projections of items.

pub operators-append : (xs ys : List Item) → operators (xs ++ ys) ≡ operators xs ++ operators ys
operators-append [] ys = refl
operators-append (EntryItem name number ∷ xs) ys = ap (λ x. name.bytes ∷ x) (operators-append xs ys)
operators-append (x ∷ xs) ys = operators-append xs ys

pub rules-append : (xs ys : List Item) → rules (xs ++ ys) ≡ rules xs ++ rules ys
rules-append [] ys = refl
rules-append (RuleItem r ∷ xs) ys = ap (λ x. r ∷ x) (rules-append xs ys)
rules-append (x ∷ xs) ys = rules-append xs ys

pub rules_alone : (ts : List RuleText) → (rules (rule_items ts) ≡ ts) × (operators (rule_items ts) ≡ [])
rules_alone [] = (refl, refl)
rules_alone (t ∷ ts) = let r = rules_alone ts in (ap (λ x. t ∷ x) r.0, r.1)

no_rules_in : (ps : List ℕ) (es : List (List ℕ × List ℕ)) → rules (entry_items ps es) ≡ []
no_rules_in ps [] = refl
no_rules_in ps (e ∷ es) = no_rules_in (tail_of (tail_of (tail_of ps))) es

pub no_rules : (ps : List ℕ) (ds : List DeclarationForm) → rules (declarations_items ps ds) ≡ []
no_rules ps [] = refl
no_rules ps (StartForm n ∷ ds) = no_rules (places_past ps (declaration_tokens (StartForm n))) ds
no_rules ps (CodeForm n ∷ ds) = no_rules (places_past ps (declaration_tokens (CodeForm n))) ds
no_rules ps (TermForm es ∷ ds) =
    let qs = places_past ps (declaration_tokens (TermForm es)) in
    rules-append (entry_items (tail_of ps) es) (declarations_items qs ds) ∙ ap (λ x. x ++ rules (declarations_items qs ds)) (no_rules_in (tail_of ps) es) ∙ no_rules qs ds

-- What the checks of entries say.

abbrev pub NamesPass : List (List ℕ) → List (List ℕ) → Type 0
NamesPass before [] = Unit {0}
NamesPass before (b ∷ bs) = ((is_among before b ≡ false) × (nat_le most_operators (length before) ≡ false)) × NamesPass (before ++ (b ∷ [])) bs

pub unplaced : (b : Bool) (at : ℕ) → place_if b at ≡ None → b ≡ false
unplaced true at h = cc
unplaced false at h = refl

pub or_none : (a b : Option Fault) → or_fault a b ≡ None → (a ≡ None) × (b ≡ None)
or_none (Some f) b h = cc
or_none None b h = (refl, h)

pass_on : (before : List Item) (x : Item) (names : List (List ℕ)) → operators (x ∷ []) ≡ [] → NamesPass (operators (before ++ (x ∷ []))) names → NamesPass (operators before) names
pass_on before x names e h = subst (λ b. NamesPass b names) (operators-append before (x ∷ []) ∙ ap (λ y. operators before ++ y) e ∙ append-nil (operators before)) h

pub names_pass : (before items : List Item) → check_all before items ≡ None → NamesPass (operators before) (operators items)
names_pass before [] h = tt
names_pass before (StartItem w ∷ items) h = pass_on before (StartItem w) (operators items) refl (names_pass (before ++ (StartItem w ∷ [])) items (or_none (check before (StartItem w)) _ h).1)
names_pass before (CodeItem ∷ items) h = pass_on before CodeItem (operators items) refl (names_pass (before ++ (CodeItem ∷ [])) items (or_none (check before CodeItem) _ h).1)
names_pass before (PercentsItem at ∷ items) h = pass_on before (PercentsItem at) (operators items) refl (names_pass (before ++ (PercentsItem at ∷ [])) items (or_none (check before (PercentsItem at)) _ h).1)
names_pass before (RuleItem r ∷ items) h = pass_on before (RuleItem r) (operators items) refl (names_pass (before ++ (RuleItem r ∷ [])) items (or_none (check before (RuleItem r)) _ h).1)
names_pass before (EntryItem name number ∷ items) h =
    let o = or_none (check before (EntryItem name number)) (check_all (before ++ (EntryItem name number ∷ [])) items) h in
    let c = to_checked before (EntryItem name number) o.0 in (
      (unplaced (is_among (operators before) name.bytes) name.at c.duplicate, unplaced (nat_le most_operators (length (operators before))) name.at c.many),
      subst (λ b. NamesPass b (operators items)) (operators-append before (EntryItem name number ∷ [])) (names_pass (before ++ (EntryItem name number ∷ [])) items o.1),
    )

-- Names stand among the nonterminals.

abbrev pub AllAmong : List (List ℕ) → List (List ℕ) → Type 0
AllAmong names [] = Unit {0}
AllAmong names (b ∷ bs) = (is_among names b ≡ true) × AllAmong names bs

pub among-split : (names xs ys : List (List ℕ)) → AllAmong names (xs ++ ys) → AllAmong names xs × AllAmong names ys
among-split names [] ys h = (tt, h)
among-split names (x ∷ xs) ys h = let r = among-split names xs ys h.1 in ((h.0, r.0), r.1)

pub among_more : (names : List (List ℕ)) (x b : List ℕ) → is_among names b ≡ true → is_among (names ++ (x ∷ [])) b ≡ true
among_more [] x b h = cc
among_more (n ∷ names) x b h = either (bytes_eq n b) h (among_more names x b)
  where
    either : (t : Bool) → (t || is_among names b) ≡ true → (is_among names b ≡ true → is_among (names ++ (x ∷ [])) b ≡ true) → (t || is_among (names ++ (x ∷ [])) b) ≡ true
    either true e f = refl
    either false e f = f e

pub among_last : (names : List (List ℕ)) (b : List ℕ) → is_among (names ++ (b ∷ [])) b ≡ true
among_last [] b = ap (λ t. t || false) (bytes_same b)
among_last (n ∷ names) b = either (bytes_eq n b) (among_last names b)
  where
    either : (t : Bool) → is_among (names ++ (b ∷ [])) b ≡ true → (t || is_among (names ++ (b ∷ [])) b) ≡ true
    either true e = refl
    either false e = e

added_among : (names : List (List ℕ)) (x b : List ℕ) (t : Bool) → is_among names b ≡ true → is_among (cond t names (names ++ (x ∷ []))) b ≡ true
added_among names x b true h = h
added_among names x b false h = among_more names x b h

kept : (names bs : List (List ℕ)) (b : List ℕ) → is_among names b ≡ true → is_among (with_by names bs) b ≡ true
kept names [] b h = h
kept names (x ∷ bs) b h = kept (cond (is_among names x) names (names ++ (x ∷ []))) bs b (added_among names x b (is_among names x) h)

just_added : (names : List (List ℕ)) (b : List ℕ) (t : Bool) → is_among names b ≡ t → is_among (cond t names (names ++ (b ∷ []))) b ≡ true
just_added names b true h = h
just_added names b false h = among_last names b

all_among : (names bs : List (List ℕ)) → AllAmong (with_by names bs) bs
all_among names [] = tt
all_among names (b ∷ bs) =
    let more = cond (is_among names b) names (names ++ (b ∷ [])) in (kept more bs b (just_added names b (is_among names b) refl), all_among more bs)

pub words_among : (items : List Item) → AllAmong (nonterminals items) (bytes_of (flat_map (nonterminal_words (operators items)) (rules items)))
words_among items =
    let ws = flat_map (nonterminal_words (operators items)) (rules items) in
    subst (λ names. AllAmong names (bytes_of ws)) (sym (with_so [] ws)) (all_among [] (bytes_of ws))

-- Each name of a pattern that passes the check of arities fits.

few : (k : ℕ) (t : Bool) → (nat_lt most_kids k || t) ≡ false → k ≤ 2
few k t h = at_most (nat_lt most_kids k) refl h
  where
    at_most : (b : Bool) → nat_lt most_kids k ≡ b → (b || t) ≡ false → k ≤ 2
    at_most true e h = cc
    at_most false e h = grind (arith, e)

no_kids : (k : ℕ) → nat_lt 0 k ≡ false → k ≡ 0
no_kids k h = grind (arith, h)

pub nodes_fit : (ops nts : List (List ℕ)) (earlier ps : List (List ℕ × ℕ)) → NoneWrong ops earlier ps → AllAmong nts (leaves_by ops ps) → NodesFit ops nts ps
nodes_fit ops nts earlier [] h k = tt
nodes_fit ops nts earlier (p ∷ ps) h k = by_name (is_among ops p.0) refl h.0 k (nodes_fit ops nts (earlier ++ (p ∷ [])) ps h.1)
  where
    leaf : (n : ℕ) → n ≡ 0 → AllAmong nts (cond ((eqb n 0) && not false) (p.0 ∷ leaves_by ops ps) (leaves_by ops ps)) → AllAmong nts (p.0 ∷ leaves_by ops ps)
    leaf n e k = subst (λ m. AllAmong nts (cond ((eqb m 0) && not false) (p.0 ∷ leaves_by ops ps) (leaves_by ops ps))) e k

    by_name : (t : Bool) → is_among ops p.0 ≡ t → cond t (nat_lt most_kids p.1 || differs (first_by earlier p.0) p.1) (nat_lt 0 p.1) ≡ false
        → AllAmong nts (cond ((eqb p.1 0) && not t) (p.0 ∷ leaves_by ops ps) (leaves_by ops ps)) → (AllAmong nts (leaves_by ops ps) → NodesFit ops nts ps) → NodesFit ops nts (p ∷ ps)
    by_name true e h k r = (inl (e, few p.1 (differs (first_by earlier p.0) p.1) h), r (rest_among (eqb p.1 0) k))
      where
        rest_among : (b : Bool) → AllAmong nts (cond (b && not true) (p.0 ∷ leaves_by ops ps) (leaves_by ops ps)) → AllAmong nts (leaves_by ops ps)
        rest_among true x = x
        rest_among false x = x
    by_name false e h k r =
        let z = no_kids p.1 h in
        let l = leaf p.1 z k in
        (inr (e, (z, l.0)), r l.1)
