-- What is said of items with one more behind them.
use Rattle.std.proofs.Common.{◌≡◌, ℕ, List, [], ◌∷◌, ◌++◌, Some, None, Bool, true, false, refl, ap, sym, ◌∙◌, cond, map, length, ◌&&◌}
use Rattle.std.specs.Prelude.{not, bytes_eq, is_some}
use Rattle.std.specs.List.{flat_map}
use Rattle.std.proofs.lemmas.List.{append-nil, length-map}
use Rattle.std.specs.Str.Parse.{digits_value}
use Rattle.std.proofs.Common.{append_assoc}
use Rattle.sel_grammar.specs.declared.grammar.Operator.{Operator}
use Rattle.sel_grammar_text.specs.Items.{Word, Item, StartItem, EntryItem, CodeItem, PercentsItem, RuleItem}
use Rattle.sel_grammar_text.specs.Names.{is_among, operators, rules, leaves, with_words, first_use}
use Rattle.sel_grammar_text.specs.Meaning.{operators_of}
use Rattle.sel_grammar_text.specs.GrammarText.{nonterminal_uses}
use Rattle.sel_grammar_text.specs.Tables.{start_word, or_word, operator_names, with_use, noted, with_uses}

pub operators-append : (xs ys : List Item) → operators (xs ++ ys) ≡ operators xs ++ operators ys
operators-append [] ys = refl
operators-append (StartItem w ∷ xs) ys = operators-append xs ys
operators-append (EntryItem name number ∷ xs) ys = ap (λ o. name.bytes ∷ o) (operators-append xs ys)
operators-append (CodeItem ∷ xs) ys = operators-append xs ys
operators-append (PercentsItem at ∷ xs) ys = operators-append xs ys
operators-append (RuleItem r ∷ xs) ys = operators-append xs ys

pub rules-append : (xs ys : List Item) → rules (xs ++ ys) ≡ rules xs ++ rules ys
rules-append [] ys = refl
rules-append (StartItem w ∷ xs) ys = rules-append xs ys
rules-append (EntryItem name number ∷ xs) ys = rules-append xs ys
rules-append (CodeItem ∷ xs) ys = rules-append xs ys
rules-append (PercentsItem at ∷ xs) ys = rules-append xs ys
rules-append (RuleItem r ∷ xs) ys = ap (λ o. r ∷ o) (rules-append xs ys)

pub operators_of-append : (us : List (Word × ℕ)) (xs ys : List Item) → operators_of us (xs ++ ys) ≡ operators_of us xs ++ operators_of us ys
operators_of-append us [] ys = refl
operators_of-append us (StartItem w ∷ xs) ys = operators_of-append us xs ys
operators_of-append us (EntryItem name number ∷ xs) ys = ap (λ o. record { name = name.bytes; external = digits_value 10 number.bytes; arity = first_use us name.bytes } ∷ o) (operators_of-append us xs ys)
operators_of-append us (CodeItem ∷ xs) ys = operators_of-append us xs ys
operators_of-append us (PercentsItem at ∷ xs) ys = operators_of-append us xs ys
operators_of-append us (RuleItem r ∷ xs) ys = operators_of-append us xs ys

pub nonterminal_uses-append : (ops : List (List ℕ)) (xs ys : List Item) → nonterminal_uses ops (xs ++ ys) ≡ nonterminal_uses ops xs ++ nonterminal_uses ops ys
nonterminal_uses-append ops [] ys = refl
nonterminal_uses-append ops (StartItem w ∷ xs) ys = ap (λ o. w ∷ o) (nonterminal_uses-append ops xs ys)
nonterminal_uses-append ops (EntryItem name number ∷ xs) ys = nonterminal_uses-append ops xs ys
nonterminal_uses-append ops (CodeItem ∷ xs) ys = nonterminal_uses-append ops xs ys
nonterminal_uses-append ops (PercentsItem at ∷ xs) ys = nonterminal_uses-append ops xs ys
nonterminal_uses-append ops (RuleItem r ∷ xs) ys = ap (λ o. leaves ops r.pattern ++ o) (nonterminal_uses-append ops xs ys) ∙ sym (append_assoc (leaves ops r.pattern) (nonterminal_uses ops xs) (nonterminal_uses ops ys))

-- where there is no rule, the operators don't matter
pub nonterminal_uses_alone : (ops others : List (List ℕ)) (xs : List Item) → rules xs ≡ [] → nonterminal_uses ops xs ≡ nonterminal_uses others xs
nonterminal_uses_alone ops others [] h = refl
nonterminal_uses_alone ops others (StartItem w ∷ xs) h = ap (λ o. w ∷ o) (nonterminal_uses_alone ops others xs h)
nonterminal_uses_alone ops others (EntryItem name number ∷ xs) h = nonterminal_uses_alone ops others xs h
nonterminal_uses_alone ops others (CodeItem ∷ xs) h = nonterminal_uses_alone ops others xs h
nonterminal_uses_alone ops others (PercentsItem at ∷ xs) h = nonterminal_uses_alone ops others xs h
nonterminal_uses_alone ops others (RuleItem r ∷ xs) h = absurd (cc)

pub start_word-append : (xs ys : List Item) → start_word (xs ++ ys) ≡ or_word (start_word xs) (start_word ys)
start_word-append [] ys = refl
start_word-append (StartItem w ∷ xs) ys = refl
start_word-append (EntryItem name number ∷ xs) ys = start_word-append xs ys
start_word-append (CodeItem ∷ xs) ys = start_word-append xs ys
start_word-append (PercentsItem at ∷ xs) ys = start_word-append xs ys
start_word-append (RuleItem r ∷ xs) ys = start_word-append xs ys

pub with_words-append : (names : List (List ℕ)) (xs ys : List Word) → with_words names (xs ++ ys) ≡ with_words (with_words names xs) ys
with_words-append names [] ys = refl
with_words-append names (w ∷ xs) ys = with_words-append (cond (is_among names w.bytes) names (names ++ (w.bytes ∷ []))) xs ys

pub with_uses-append : (us xs ys : List Word) → with_uses us (xs ++ ys) ≡ with_uses (with_uses us xs) ys
with_uses-append us [] ys = refl
with_uses-append us (w ∷ xs) ys = with_uses-append (cond (is_among (map (λ u. u.bytes) us) w.bytes) us (us ++ (w ∷ []))) xs ys

pub flat_map-snoc : {X Y : Type 0} (f : X → List Y) (xs : List X) (x : X) → flat_map f (xs ++ (x ∷ [])) ≡ flat_map f xs ++ f x
flat_map-snoc f [] x = append-nil (f x)
flat_map-snoc f (y ∷ xs) x = ap (λ o. f y ++ o) (flat_map-snoc f xs x) ∙ sym (append_assoc (f y) (flat_map f xs) (f x))

-- the names that the operators have are those of the entries
pub operator_names_of : (us : List (Word × ℕ)) (items : List Item) → operator_names (operators_of us items) ≡ operators items
operator_names_of us [] = refl
operator_names_of us (StartItem w ∷ xs) = operator_names_of us xs
operator_names_of us (EntryItem name number ∷ xs) = ap (λ o. name.bytes ∷ o) (operator_names_of us xs)
operator_names_of us (CodeItem ∷ xs) = operator_names_of us xs
operator_names_of us (PercentsItem at ∷ xs) = operator_names_of us xs
operator_names_of us (RuleItem r ∷ xs) = operator_names_of us xs

-- the first use, with one more use behind
first_use_more : (us : List (Word × ℕ)) (u : Word × ℕ) (name : List ℕ)
    → first_use (us ++ (u ∷ [])) name ≡ cond (bytes_eq u.0.bytes name && not (is_some (first_use us name))) (Some u.1) (first_use us name)
first_use_more [] u name = alone (bytes_eq u.0.bytes name)
  where
    alone : (b : Bool) → cond b (Some u.1) None ≡ cond (b && true) (Some u.1) None
    alone true = refl
    alone false = refl
first_use_more (v ∷ us) u name = go (bytes_eq v.0.bytes name) (first_use_more us u name)
  where
    go : (b : Bool) → first_use (us ++ (u ∷ [])) name ≡ cond (bytes_eq u.0.bytes name && not (is_some (first_use us name))) (Some u.1) (first_use us name)
        → cond b (Some v.1) (first_use (us ++ (u ∷ [])) name) ≡ cond (bytes_eq u.0.bytes name && not (is_some (cond b (Some v.1) (first_use us name)))) (Some u.1) (cond b (Some v.1) (first_use us name))
    go false h = h
    go true h = off (bytes_eq u.0.bytes name)
      where
        off : (b : Bool) → Some v.1 ≡ cond (b && false) (Some u.1) (Some v.1)
        off true = refl
        off false = refl

with_use_of : (us : List (Word × ℕ)) (u : Word × ℕ) (name : List ℕ) (external : ℕ)
    → with_use u (record { name = name; external = external; arity = first_use us name }) ≡ record { name = name; external = external; arity = first_use (us ++ (u ∷ [])) name }
with_use_of us u name external = rw (first_use_more us u name) (go (bytes_eq u.0.bytes name && not (is_some (first_use us name))))
  where
    go : (b : Bool) → (let o : Operator = record { name = name; external = external; arity = first_use us name } in cond b (record o { arity = Some u.1 }) o)
        ≡ record { name = name; external = external; arity = cond b (Some u.1) (first_use us name) }
    go true = refl
    go false = refl

one_noted : (us : List (Word × ℕ)) (u : Word × ℕ) (items : List Item) → map (with_use u) (operators_of us items) ≡ operators_of (us ++ (u ∷ [])) items
one_noted us u [] = refl
one_noted us u (StartItem w ∷ xs) = one_noted us u xs
one_noted us u (EntryItem name number ∷ xs) = rw (with_use_of us u name.bytes (digits_value 10 number.bytes), one_noted us u xs) refl
one_noted us u (CodeItem ∷ xs) = one_noted us u xs
one_noted us u (PercentsItem at ∷ xs) = one_noted us u xs
one_noted us u (RuleItem r ∷ xs) = one_noted us u xs

-- what the operators are behind more uses
pub noted_uses : (vs us : List (Word × ℕ)) (items : List Item) → noted vs (operators_of us items) ≡ operators_of (us ++ vs) items
noted_uses [] us items = ap (λ x. operators_of x items) (sym (append-nil us))
noted_uses (v ∷ vs) us items =
    ap (noted vs) (one_noted us v items) ∙ noted_uses vs (us ++ (v ∷ [])) items ∙ ap (λ x. operators_of x items) (append_assoc us (v ∷ []) vs)

pub length-noted : (vs : List (Word × ℕ)) (ops : List Operator) → length (noted vs ops) ≡ length ops
length-noted [] ops = refl
length-noted (v ∷ vs) ops = length-noted vs (map (with_use v) ops) ∙ length-map ops (with_use v)
