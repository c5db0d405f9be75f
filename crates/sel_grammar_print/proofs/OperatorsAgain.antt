-- The operators of a text are printed, and read again.
use Rattle.std.proofs.Common.{◌≡◌, ℕ, ◌≤◌, List, [], ◌∷◌, ◌++◌, Option, None, true, false, length, refl, ap, sym, ◌∙◌, subst, arith, append_assoc, map}
use Rattle.std.specs.Prelude.{codes, decimal, nat_le}
use Rattle.std.specs.List.{flat_map, AllByRecursion}
use Rattle.std.specs.Str.Parse.{digits_value}
use Rattle.sel_grammar.specs.Limits.{greatest_external, most_operators}
use Rattle.sel_grammar.specs.declared.grammar.Operator.{Operator}
use Rattle.sel_grammar_text.specs.Tokens.{Token, Name, Integer, Term, Equals}
use Rattle.sel_grammar_text.specs.Form.{DeclarationForm, TermForm, declaration_tokens, IsDeclaration, starts}
use Rattle.sel_grammar_text.specs.Items.{Word, word, RuleText, Item, StartItem, EntryItem, CodeItem, PercentsItem, RuleItem}
use Rattle.sel_grammar_text.specs.Names.{is_among, operators, first_use}
use Rattle.sel_grammar_text.specs.Checks.{place_if}
use Rattle.sel_grammar_text.specs.Faults.{or_fault}
use Rattle.sel_grammar_text.specs.ItemFaults.{check, check_all}
use Rattle.sel_grammar_text.specs.Meaning.{operators_of}
use Rattle.sel_grammar_print.specs.PrintedGrammar.{operator_names, printed_operator}
use Rattle.sel_grammar_text.proofs.NamedPatterns.{IsName}
use Rattle.sel_grammar_text.proofs.FormItems.{head_of, tail_of, places_past}
use Rattle.sel_grammar_text.proofs.FormCuts.{rule_items, declarations_items}
use Rattle.sel_grammar_text.proofs.SourceNames.{EntriesGood, operators-append, NamesPass}
use Rattle.sel_grammar_print.proofs.SameChecks.{from_checked}
use Rattle.sel_grammar_print.proofs.PrintedTokens.{CutsInto, cuts_entry}
use Rattle.sel_grammar_print.proofs.PrintedCosts.{decimal_number, decimal_value}

-- Operators.

entry_passes : (before : List Item) (name number : Word) → is_among (operators before) name.bytes ≡ false → nat_le most_operators (length (operators before)) ≡ false → check before (EntryItem name number) ≡ None
entry_passes before name number h k = from_checked before (EntryItem name number) (record {
  duplicate = ap (λ b. place_if b name.at) h;
  many = ap (λ b. place_if b name.at) k;
  left = refl;
  nonterminals = refl;
  arities = refl;
  template = refl;
  kids = refl;
  result = refl;
  range = refl;
  costs = refl;
})

abbrev pub term_form : Operator → DeclarationForm
term_form o = TermForm ((o.name, decimal o.external) ∷ [])

abbrev pub term_forms : List Operator → List DeclarationForm
term_forms os = map term_form os

-- what is known of an operator of a text
abbrev pub OperatorGood : List (Word × ℕ) → Operator → Type 0
OperatorGood us o = IsName o.name × ((o.external ≤ greatest_external) × (o.arity ≡ first_use us o.name))

abbrev pub OperatorsGood : List (Word × ℕ) → List Operator → Type 0
OperatorsGood us [] = Unit {0}
OperatorsGood us (o ∷ os) = OperatorGood us o × OperatorsGood us os

small_is : (n : ℕ) → nat_le n greatest_external ≡ true → n ≤ greatest_external
small_is n h = grind (arith, h)

is_small_so : (n : ℕ) → n ≤ greatest_external → nat_le n greatest_external ≡ true
is_small_so n h = grind (arith, h)

pub operators_good : (us : List (Word × ℕ)) (items : List Item) → EntriesGood items → OperatorsGood us (operators_of us items)
operators_good us [] h = tt
operators_good us (EntryItem name number ∷ items) h = ((h.0.0, (small_is (digits_value 10 number.bytes) h.0.1, refl)), operators_good us items h.1)
operators_good us (StartItem w ∷ items) h = operators_good us items h.1
operators_good us (CodeItem ∷ items) h = operators_good us items h.1
operators_good us (PercentsItem at ∷ items) h = operators_good us items h.1
operators_good us (RuleItem r ∷ items) h = operators_good us items h.1

pub names_so : (us : List (Word × ℕ)) (items : List Item) → operator_names (operators_of us items) ≡ operators items
names_so us [] = refl
names_so us (EntryItem name number ∷ items) = ap (λ x. name.bytes ∷ x) (names_so us items)
names_so us (StartItem w ∷ items) = names_so us items
names_so us (CodeItem ∷ items) = names_so us items
names_so us (PercentsItem at ∷ items) = names_so us items
names_so us (RuleItem r ∷ items) = names_so us items

decimal_small : (n : ℕ) → n ≤ greatest_external → digits_value 10 (decimal n) ≡ n
decimal_small n h = decimal_value n (omega (arith, h))

pub terms_lawful : (us : List (Word × ℕ)) (os : List Operator) → OperatorsGood us os → AllByRecursion IsDeclaration (term_forms os)
terms_lawful us [] g = tt
terms_lawful us (o ∷ os) g =
    ((subst (λ n. nat_le n greatest_external ≡ true) (sym (decimal_small o.external g.0.1.0)) (is_small_so o.external g.0.1.0), tt), terms_lawful us os g.1)

pub terms_start_none : (os : List Operator) → starts (term_forms os) ≡ 0
terms_start_none [] = refl
terms_start_none (o ∷ os) = terms_start_none os

pub terms_operators : (ps : List ℕ) (os : List Operator) → operators (declarations_items ps (term_forms os)) ≡ operator_names os
terms_operators ps [] = refl
terms_operators ps (o ∷ os) = ap (λ x. o.name ∷ x) (terms_operators (places_past ps (declaration_tokens (term_form o))) os)

pub operators_of-append : (us : List (Word × ℕ)) (xs ys : List Item) → operators_of us (xs ++ ys) ≡ operators_of us xs ++ operators_of us ys
operators_of-append us [] ys = refl
operators_of-append us (EntryItem name number ∷ xs) ys = ap (λ x. record { name = name.bytes; external = digits_value 10 number.bytes; arity = first_use us name.bytes } ∷ x) (operators_of-append us xs ys)
operators_of-append us (StartItem w ∷ xs) ys = operators_of-append us xs ys
operators_of-append us (CodeItem ∷ xs) ys = operators_of-append us xs ys
operators_of-append us (PercentsItem at ∷ xs) ys = operators_of-append us xs ys
operators_of-append us (RuleItem r ∷ xs) ys = operators_of-append us xs ys

pub no_operators : (us : List (Word × ℕ)) (ts : List RuleText) → operators_of us (rule_items ts) ≡ []
no_operators us [] = refl
no_operators us (t ∷ ts) = no_operators us ts

abbrev pub made : List ℕ → ℕ → Option ℕ → Operator
made name external arity = record { name = name; external = external; arity = arity }

pub terms_say : (us vs : List (Word × ℕ)) (ps : List ℕ) (os : List Operator) → ((name : List ℕ) → first_use us name ≡ first_use vs name) → OperatorsGood us os
    → operators_of vs (declarations_items ps (term_forms os)) ≡ os
terms_say us vs ps [] e g = refl
terms_say us vs ps (o ∷ os) e g =
    let qs = places_past ps (declaration_tokens (term_form o)) in
    ap (λ n. made o.name n (first_use vs o.name) ∷ operators_of vs (declarations_items qs (term_forms os))) (decimal_small o.external g.0.1.0)
    ∙ ap (λ a. made o.name o.external a ∷ operators_of vs (declarations_items qs (term_forms os))) (sym (e o.name) ∙ sym g.0.1.1)
    ∙ ap (λ x. o ∷ x) (terms_say us vs qs os e g.1)

pub terms_pass : (before : List Item) (ps : List ℕ) (os : List Operator) → NamesPass (operators before) (operator_names os) → check_all before (declarations_items ps (term_forms os)) ≡ None
terms_pass before ps [] h = refl
terms_pass before ps (o ∷ os) h =
    let qs = places_past ps (declaration_tokens (term_form o)) in
    let item = EntryItem (word (head_of (tail_of ps)) o.name) (word (head_of (tail_of (tail_of (tail_of ps)))) (decimal o.external)) in
    ap (λ x. or_fault x (check_all (before ++ (item ∷ [])) (declarations_items qs (term_forms os))))
    (entry_passes before (word (head_of (tail_of ps)) o.name) (word (head_of (tail_of (tail_of (tail_of ps)))) (decimal o.external)) h.0.0 h.0.1)
    ∙ terms_pass (before ++ (item ∷ [])) qs os (subst (λ x. NamesPass x (operator_names os)) (sym (operators-append before (item ∷ []))) h.1)

pub with_head : (P : List Token → Type 0) (ts : List Token) (x : Token) (xs : List Token) → ((y : Token) (ys : List Token) → P (y ∷ ys)) → P (ts ++ (x ∷ xs))
with_head P [] x xs f = f x xs
with_head P (t ∷ ts) x xs f = f t (ts ++ (x ∷ xs))

pub cuts_terms : (us : List (Word × ℕ)) (os : List Operator) (more : List ℕ) (x : Token) (xs : List Token) (rest : List ℕ) → OperatorsGood us os → CutsInto more (x ∷ xs) rest
    → CutsInto (flat_map printed_operator os ++ more) (flat_map declaration_tokens (term_forms os) ++ (x ∷ xs)) rest
cuts_terms us [] more x xs rest g k = k
cuts_terms us (o ∷ os) more x xs rest g k =
    let texts = flat_map printed_operator os in let forms = flat_map declaration_tokens (term_forms os) in
    subst (λ y. CutsInto y (Term ∷ Name o.name ∷ Equals ∷ Integer (decimal o.external) ∷ (forms ++ (x ∷ xs))) rest) (sym (regroup o.name (decimal o.external) texts more))
    (with_head (λ ts. CutsInto (texts ++ more) ts rest → CutsInto (codes "%term " ++ (o.name ++ (codes "=" ++ (decimal o.external ++ (codes "\n" ++ (texts ++ more)))))) (Term ∷ Name o.name ∷ Equals ∷ Integer (decimal o.external) ∷ ts) rest)
    forms x xs (λ y ys. cuts_entry o.name (decimal o.external) (texts ++ more) y ys rest g.0.0 (decimal_number o.external (omega (arith, g.0.1.0)))) (cuts_terms us os more x xs rest g.1 k))
  where
    regroup : (n d texts more : List ℕ) → ((codes "%term " ++ (n ++ (codes "=" ++ (d ++ codes "\n")))) ++ texts) ++ more ≡ codes "%term " ++ (n ++ (codes "=" ++ (d ++ (codes "\n" ++ (texts ++ more)))))
    regroup n d texts more = simp append_assoc refl
