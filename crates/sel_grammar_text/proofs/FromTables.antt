-- What the tables tell of the items.
use Rattle.std.proofs.Common.{◌≡◌, ℕ, List, [], ◌∷◌, ◌++◌, Option, Some, None, Bool, true, false, cond, eqb, ◌||◌, length, refl, ap, sym, ◌∙◌, map}
use Rattle.std.specs.Prelude.{option_map, bytes_eq}
use Rattle.std.proofs.lemmas.Slice.Eq.{bytes_eq-Decides}
use Rattle.sel_grammar_text.specs.Words.{view_word}
use Rattle.sel_grammar_text.specs.GrammarText.{first_absent, left_names, nonterminal_uses, end_fault}
use Rattle.sel_grammar_text.specs.Checks.{or_place}
use Rattle.std.proofs.lemmas.List.{length-map}
use Rattle.sel_grammar_text.specs.Items.{Word, RuleText, Item, StartItem, EntryItem, CodeItem, PercentsItem, RuleItem}
use Rattle.sel_grammar_text.specs.Names.{is_among, operators, rules, nonterminals, uses}
use Rattle.sel_grammar_text.specs.Meaning.{rule_of, start_of, grammar_of}
use Rattle.sel_grammar_text.specs.Faults.{fault, fault_at, or_fault}
use Rattle.sel_grammar_text.specs.ItemFaults.{check, first_fault}
use Rattle.sel_grammar.specs.Limits as limits
use Rattle.sel_grammar_text.specs.Checks as checks
use Rattle.sel_grammar_text.specs.declared.fault.Fault.{Fault}
use Rattle.sel_grammar_text.specs.declared.tables.Tables.{Tables}
use Rattle.sel_grammar_text.specs.Tables.{Means, operator_names, start_word, start_number, with_uses}
use Rattle.sel_grammar_text.proofs.ItemLists.{operator_names_of}

pub names_are : (bytes : List ℕ) (before : List Item) (t : Tables) → Means bytes before t → operator_names t.operators.items ≡ operators before
names_are bytes before t m = ap operator_names m.operators_are ∙ operator_names_of (uses (rules before)) before

pub operators_counted : (bytes : List ℕ) (before : List Item) (t : Tables) → Means bytes before t → length t.operators.items ≡ length (operators before)
operators_counted bytes before t m = sym (length-map t.operators.items (λ o. o.name)) ∙ ap length (names_are bytes before t m)

pub rules_counted : (bytes : List ℕ) (before : List Item) (t : Tables) → Means bytes before t → length t.rules.items ≡ length (rules before)
rules_counted bytes before t m = ap length (m.rules_are []) ∙ length-map (rules before) (rule_of bytes (operators before) (nonterminals before))

alone : (o : Option Fault) → or_fault o None ≡ o
alone None = refl
alone (Some f) = refl

-- the fault of an item is the first of the places that its checks give
pub check_is_first : (before : List Item) (item : Item) (a b c d e f g h i j : Option ℕ)
    → a ≡ checks.duplicate_term before item → b ≡ checks.too_many_items before item → c ≡ checks.term_on_left before item → d ≡ checks.too_many_nonterminals before item → e ≡ checks.arity before item
    → f ≡ checks.template_form before item → g ≡ checks.kid_number before item → h ≡ checks.result_in_fragment before item → i ≡ checks.range_place before item → j ≡ checks.cost_large before item
    → first_fault ((limits.duplicate_term, a) ∷ (limits.too_many, b) ∷ (limits.term_on_left, c) ∷ (limits.too_many, d) ∷ (limits.arity, e) ∷ (limits.template_form, f) ∷ (limits.kid_number, g) ∷ (limits.result_in_fragment, h) ∷ (limits.range_place, i) ∷ (limits.cost_large, j) ∷ [])
    ≡ check before item
unfolding check
check_is_first before item a b c d e f g h i j a' b' c' d' e' f' g' h' i' j' = rw (a', b', c', d', e', f', g', h', i', j', alone (fault_at limits.cost_large (checks.cost_large before item))) refl

start_known : (names : List (List ℕ)) (items : List Item) → start_number names (start_word items) ≡ start_of names items
start_known names [] = refl
start_known names (StartItem w ∷ items) = refl
start_known names (EntryItem n number ∷ items) = start_known names items
start_known names (CodeItem ∷ items) = start_known names items
start_known names (PercentsItem at ∷ items) = start_known names items
start_known names (RuleItem r ∷ items) = start_known names items

-- the grammar that the tables make
pub grammar_made : (bytes : List ℕ) (items : List Item) (t : Tables) (start : ℕ) → Means bytes items t → start ≡ start_number t.nonterminals.items (option_map view_word t.start)
    → record { start = start; operators = t.operators.items; nonterminals = t.nonterminals.items; rules = t.rules.items } ≡ grammar_of bytes items
unfolding grammar_of
grammar_made bytes items t start m s =
    let e : start ≡ start_of (nonterminals items) items =
    s ∙ ap (λ n. start_number n (option_map view_word t.start)) m.nonterminals_are ∙ ap (start_number (nonterminals items)) m.start_is ∙ start_known (nonterminals items) items in
    rw (e, m.operators_are, m.nonterminals_are, m.rules_are []) refl

-- A word whose name is that of an earlier one needn't be looked at.
absent-append : (names : List (List ℕ)) (xs ys : List Word) → first_absent names (xs ++ ys) ≡ or_place (first_absent names xs) (first_absent names ys)
absent-append names [] ys = refl
absent-append names (x ∷ xs) ys = go (is_among names x.bytes) (absent-append names xs ys)
  where
    go : (b : Bool) → first_absent names (xs ++ ys) ≡ or_place (first_absent names xs) (first_absent names ys) → cond b (first_absent names (xs ++ ys)) (Some x.at) ≡ or_place (cond b (first_absent names xs) (Some x.at)) (first_absent names ys)
    go true h = h
    go false h = refl

absent_again : (names : List (List ℕ)) (us : List Word) (w : Word) → is_among (map (λ u. u.bytes) us) w.bytes ≡ true → first_absent names us ≡ or_place (first_absent names us) (first_absent names (w ∷ []))
absent_again names [] w h = absurd (cc)
absent_again names (u ∷ us) w h = go (bytes_eq u.bytes w.bytes) refl (is_among names u.bytes) refl h (λ k. absent_again names us w k)
  where
    go : (e : Bool) → bytes_eq u.bytes w.bytes ≡ e → (b : Bool) → is_among names u.bytes ≡ b → (e || is_among (map (λ u. u.bytes) us) w.bytes) ≡ true
        → (is_among (map (λ u. u.bytes) us) w.bytes ≡ true → first_absent names us ≡ or_place (first_absent names us) (first_absent names (w ∷ [])))
        → cond b (first_absent names us) (Some u.at) ≡ or_place (cond b (first_absent names us) (Some u.at)) (first_absent names (w ∷ []))
    go e f false g h k = refl
    go false f true g h k = k h
    go true f true g h k =
        let same : is_among names w.bytes ≡ true = ap (is_among names) (sym ((bytes_eq-Decides u.bytes w.bytes).0 f)) ∙ g in
        or_place_none (first_absent names us) ∙ ap (λ b. or_place (first_absent names us) (cond b None (Some w.at))) (sym same)
      where
        or_place_none : (o : Option ℕ) → o ≡ or_place o None
        or_place_none None = refl
        or_place_none (Some x) = refl

absent_uses : (names : List (List ℕ)) (us words : List Word) → first_absent names (with_uses us words) ≡ or_place (first_absent names us) (first_absent names words)
absent_uses names us [] = or_place_none (first_absent names us)
  where
    or_place_none : (o : Option ℕ) → o ≡ or_place o None
    or_place_none None = refl
    or_place_none (Some x) = refl
absent_uses names us (w ∷ words) = go (is_among (map (λ u. u.bytes) us) w.bytes) refl (λ vs. absent_uses names vs words)
  where
    assoc : (o p q : Option ℕ) → or_place (or_place o p) q ≡ or_place o (or_place p q)
    assoc None p q = refl
    assoc (Some x) p q = refl

    split : first_absent names (w ∷ words) ≡ or_place (first_absent names (w ∷ [])) (first_absent names words)
    split = absent-append names (w ∷ []) words

    go : (b : Bool) → is_among (map (λ u. u.bytes) us) w.bytes ≡ b → ((vs : List Word) → first_absent names (with_uses vs words) ≡ or_place (first_absent names vs) (first_absent names words))
        → first_absent names (with_uses (cond b us (us ++ (w ∷ []))) words) ≡ or_place (first_absent names us) (first_absent names (w ∷ words))
    go true e k = k us ∙ ap (λ o. or_place o (first_absent names words)) (absent_again names us w e) ∙ assoc (first_absent names us) (first_absent names (w ∷ [])) (first_absent names words) ∙ ap (or_place (first_absent names us)) (sym split)
    go false e k = k (us ++ (w ∷ [])) ∙ ap (λ o. or_place o (first_absent names words)) (absent-append names us (w ∷ [])) ∙ assoc (first_absent names us) (first_absent names (w ∷ [])) (first_absent names words) ∙ ap (or_place (first_absent names us)) (sym split)

lefts_mapped : (rs : List RuleText) → map (λ w. w.bytes) (map (λ r. r.left) rs) ≡ left_names rs
lefts_mapped [] = refl
lefts_mapped (r ∷ rs) = ap (λ x. r.left.bytes ∷ x) (lefts_mapped rs)

or_first : (o : Option ℕ) → or_place None o ≡ o
or_first o = refl

-- the first name without a rule, by the tables
pub absent_told : (bytes : List ℕ) (items : List Item) (t : Tables) → Means bytes items t
    → first_absent (map (λ w. w.bytes) (map view_word t.lefts.items)) (map view_word t.uses.items) ≡ first_absent (left_names (rules items)) (nonterminal_uses (operators items) items)
absent_told bytes items t m =
    ap (λ x. first_absent (map (λ w. w.bytes) x) (map view_word t.uses.items)) m.lefts_are ∙ ap (λ x. first_absent x (map view_word t.uses.items)) (lefts_mapped (rules items))
    ∙ ap (first_absent (left_names (rules items))) m.uses_are ∙ absent_uses (left_names (rules items)) [] (nonterminal_uses (operators items) items)

pub no_rules_fault : (items : List Item) (at : ℕ) → length (rules items) ≡ 0 → Some (fault limits.no_rules at) ≡ end_fault items at
unfolding end_fault
no_rules_fault items at h = rw h refl

pub absent_fault : (items : List Item) (at : ℕ) (o : Option ℕ) → eqb (length (rules items)) 0 ≡ false → o ≡ first_absent (left_names (rules items)) (nonterminal_uses (operators items) items) → fault_at limits.no_rule o ≡ end_fault items at
unfolding end_fault
absent_fault items at o h e = rw (h, e) refl
