-- What is known of items that passed their checks.
use Rattle.std.proofs.Common.{◌≡◌, ℕ, ◌+◌, ◌≤◌, ◌⊎◌, inl, inr, List, [], ◌∷◌, ◌++◌, Option, Some, None, Bool, true, false, length, refl, ap, sym, ◌∙◌, subst, arith, cond, eqb, ◌||◌, length-append, append_assoc, append-nil}
use Rattle.std.specs.Prelude.{not, bytes_eq, nat_lt, nat_le}
use Rattle.std.specs.List.{AllByRecursion, flat_map}
use Rattle.std.proofs.lemmas.Slice.Eq.{bytes_eq-Decides}
use Rattle.sel_grammar.specs.Limits.{most_operators, most_nonterminals, most_rules, most_kids}
use Rattle.sel_grammar_text.specs.declared.fault.Fault.{Fault}
use Rattle.sel_grammar_text.specs.Items.{Word, RuleText, Item, StartItem, EntryItem, CodeItem, PercentsItem, RuleItem}
use Rattle.sel_grammar_text.specs.Names.{is_among, operators, rules, nonterminal_words, with_words, nonterminals, uses, first_use}
use Rattle.sel_grammar_text.specs.Checks.{place_if, differs, has_wrong_kids, first_wrong_kids, is_nullary, range_at, large_in_tail}
use Rattle.sel_grammar_text.specs.Faults.{or_fault}
use Rattle.sel_grammar_text.specs.ItemFaults.{check, check_all}
use Rattle.sel_grammar_text.specs.Tables.{StandsRight}
use Rattle.sel_grammar_text.proofs.ItemLists.{operators-append, rules-append, with_words-append, flat_map-snoc}
use Rattle.sel_grammar_text.proofs.NumberStays.{stays, rule_settled, HasKidsRight, IsSettled}
use Rattle.sel_grammar_text.proofs.Passes.{passes, kids_pass, few_words}

-- A name of a pattern: an operator stands with as many kids as at its first use, and any other name is a nonterminal.
pub record IsKnownName (ops nts : List (List ℕ)) (us : List (Word × ℕ)) (n : Word × ℕ) : Type 0 where
  pub kidless : is_among ops n.0.bytes ≡ false → n.1 ≡ 0
  pub settled : is_among ops n.0.bytes ≡ false → is_among nts n.0.bytes ≡ true
  pub first : is_among ops n.0.bytes ≡ true → first_use us n.0.bytes ≡ Some n.1
  pub few : n.1 ≤ most_kids

-- a rule's names, where a range may stand, and how large its costs are
pub record IsKnownRule (ops nts : List (List ℕ)) (us : List (Word × ℕ)) (r : RuleText) : Type 0 where
  pub left : is_among nts r.left.bytes ≡ true
  pub names : AllByRecursion (IsKnownName ops nts us) r.pattern
  pub range : (is_nullary ops r.pattern ≡ true) ⊎ (range_at r.tail ≡ None)
  pub costs : large_in_tail r.tail ≡ None

-- the items are no more than there may be, and their rules are known
pub record IsKnown (items : List Item) : Type 0 where
  pub few_operators : length (operators items) ≤ most_operators
  pub few_rules : length (rules items) ≤ most_rules
  pub few_nonterminals : length (nonterminals items) ≤ most_nonterminals
  pub rules_known : AllByRecursion (IsKnownRule (operators items) (nonterminals items) (uses (rules items))) (rules items)

pub all_map : {X : Type 0} (P Q : X → Type 0) (xs : List X) → ((x : X) → P x → Q x) → AllByRecursion P xs → AllByRecursion Q xs
all_map P Q [] f h = tt
all_map P Q (x ∷ xs) f h = (f x h.0, all_map P Q xs f h.1)

pub all_append : {X : Type 0} (P : X → Type 0) (xs ys : List X) → AllByRecursion P xs → AllByRecursion P ys → AllByRecursion P (xs ++ ys)
all_append P [] ys h k = k
all_append P (x ∷ xs) ys h k = (h.0, all_append P xs ys h.1 k)

-- the first use stays the first
first_stays : (us vs : List (Word × ℕ)) (name : List ℕ) (k : ℕ) → first_use us name ≡ Some k → first_use (us ++ vs) name ≡ Some k
first_stays [] vs name k h = absurd (cc)
first_stays (u ∷ us) vs name k h = go (bytes_eq u.0.bytes name) h (first_stays us vs name k)
  where
    go : (b : Bool) → cond b (Some u.1) (first_use us name) ≡ Some k → (first_use us name ≡ Some k → first_use (us ++ vs) name ≡ Some k) → cond b (Some u.1) (first_use (us ++ vs) name) ≡ Some k
    go true h f = h
    go false h f = f h

name_stays : (ops nts : List (List ℕ)) (us vs : List (Word × ℕ)) (words : List Word) (n : Word × ℕ) → IsKnownName ops nts us n → IsKnownName ops (with_words nts words) (us ++ vs) n
name_stays ops nts us vs words n h = record {
  kidless = h.kidless;
  settled = λ no. (stays nts words n.0.bytes (h.settled no)).among;
  first = λ yes. first_stays us vs n.0.bytes n.1 (h.first yes);
  few = h.few;
}

known_stays : (ops nts : List (List ℕ)) (us vs : List (Word × ℕ)) (words : List Word) (r : RuleText) → IsKnownRule ops nts us r → IsKnownRule ops (with_words nts words) (us ++ vs) r
known_stays ops nts us vs words r h = record {
  left = (stays nts words r.left.bytes h.left).among;
  names = all_map (IsKnownName ops nts us) (IsKnownName ops (with_words nts words) (us ++ vs)) r.pattern (name_stays ops nts us vs words) h.names;
  range = h.range;
  costs = h.costs;
}

-- a use that differs from no earlier one is as the first
first_here : (earlier names : List (Word × ℕ)) (n : Word × ℕ) → differs (first_use earlier n.0.bytes) n.1 ≡ false → first_use (earlier ++ (n ∷ names)) n.0.bytes ≡ Some n.1
first_here [] names n h = rw ((bytes_eq-Decides n.0.bytes n.0.bytes).1 refl) refl
first_here (u ∷ us) names n h = go (bytes_eq u.0.bytes n.0.bytes) h (first_here us names n)
  where
    same : (b : Bool) → eqb u.1 n.1 ≡ b → not b ≡ false → u.1 ≡ n.1
    same true e k = grind (arith, e)
    same false e k = absurd (cc)

    go : (b : Bool) → differs (cond b (Some u.1) (first_use us n.0.bytes)) n.1 ≡ false → (differs (first_use us n.0.bytes) n.1 ≡ false → first_use (us ++ (n ∷ names)) n.0.bytes ≡ Some n.1)
        → cond b (Some u.1) (first_use (us ++ (n ∷ names)) n.0.bytes) ≡ Some n.1
    go true h f = ap Some (same (eqb u.1 n.1) refl h)
    go false h f = f h

abbrev IsFirst : List (List ℕ) → List (Word × ℕ) → Word × ℕ → Type 0
IsFirst ops us n = is_among ops n.0.bytes ≡ true → first_use us n.0.bytes ≡ Some n.1

firsts : (ops : List (List ℕ)) (earlier names : List (Word × ℕ)) → first_wrong_kids ops earlier names ≡ None → AllByRecursion (IsFirst ops (earlier ++ names)) names
firsts ops earlier [] h = tt
firsts ops earlier (n ∷ names) h = go (has_wrong_kids ops earlier n) refl h (λ k. firsts ops (earlier ++ (n ∷ [])) names k)
  where
    second : (x y : Bool) → (x || y) ≡ false → y ≡ false
    second true y h = absurd (cc)
    second false y h = h

    one : (b : Bool) → cond b (nat_lt most_kids n.1 || differs (first_use earlier n.0.bytes) n.1) (nat_lt 0 n.1) ≡ false → b ≡ true → differs (first_use earlier n.0.bytes) n.1 ≡ false
    one true h e = second (nat_lt most_kids n.1) (differs (first_use earlier n.0.bytes) n.1) h
    one false h e = absurd (cc)

    go : (w : Bool) → has_wrong_kids ops earlier n ≡ w → cond w (Some n.0.at) (first_wrong_kids ops (earlier ++ (n ∷ [])) names) ≡ None
        → (first_wrong_kids ops (earlier ++ (n ∷ [])) names ≡ None → AllByRecursion (IsFirst ops ((earlier ++ (n ∷ [])) ++ names)) names) → AllByRecursion (IsFirst ops (earlier ++ (n ∷ names))) (n ∷ names)
    go true f k more = absurd (cc)
    go false f k more = (
      λ yes. first_here earlier names n (one (is_among ops n.0.bytes) f yes),
      subst (λ us. AllByRecursion (IsFirst ops us) names) (append_assoc earlier (n ∷ []) names) (more k),
    )

-- what each check gives for each name
names_known : (ops nts : List (List ℕ)) (us names : List (Word × ℕ)) → HasKidsRight ops names → IsSettled ops nts names → AllByRecursion (IsFirst ops us) names → AllByRecursion (λ n. n.1 ≤ most_kids) names
    → AllByRecursion (IsKnownName ops nts us) names
names_known ops nts us [] a b c d = tt
names_known ops nts us (n ∷ names) a b c d = (record { kidless = a.0; settled = b.0; first = c.0; few = d.0 }, names_known ops nts us names a.1 b.1 c.1 d.1)

range_known : (b : Bool) (o : Option ℕ) → cond b None o ≡ None → (b ≡ true) ⊎ (o ≡ None)
range_known true o h = inl refl
range_known false o h = inr h

-- the items by their lists
known_as : (items : List Item) (ops nts : List (List ℕ)) (rs : List RuleText) → operators items ≡ ops → nonterminals items ≡ nts → rules items ≡ rs
    → length ops ≤ most_operators → length rs ≤ most_rules → length nts ≤ most_nonterminals → AllByRecursion (IsKnownRule ops nts (uses rs)) rs → IsKnown items
known_as items ops nts rs o n r a b c k = record {
  few_operators = subst (λ x. length x ≤ most_operators) (sym o) a;
  few_rules = subst (λ x. length x ≤ most_rules) (sym r) b;
  few_nonterminals = subst (λ x. length x ≤ most_nonterminals) (sym n) c;
  rules_known = subst (λ x. AllByRecursion (IsKnownRule x (nonterminals items) (uses (rules items))) (rules items)) (sym o)
      (subst (λ x. AllByRecursion (IsKnownRule ops x (uses (rules items))) (rules items)) (sym n) (subst (λ x. AllByRecursion (IsKnownRule ops nts (uses x)) x) (sym r) k));
}

room_left : (most n at : ℕ) (b : Bool) → nat_le most n ≡ b → place_if b at ≡ None → n + 1 ≤ most
room_left most n at true e h = absurd (cc)
room_left most n at false e h = grind (arith, e)

one_longer : {X : Type 0} (most : ℕ) (xs : List X) (x : X) → length xs + 1 ≤ most → length (xs ++ (x ∷ [])) ≤ most
one_longer most xs x h = let l = length-append xs (x ∷ []) in omega (arith, l, h)

-- one rule more
known_rule : (before : List Item) (r : RuleText) → IsKnown before → check before (RuleItem r) ≡ None → IsKnown (before ++ (RuleItem r ∷ []))
known_rule before r h passed =
    let item = RuleItem r in
    let ops = operators before in
    let nts = nonterminals before in
    let us = uses (rules before) in
    let ws = nonterminal_words ops r in
    let p = passes before item passed in
    let o : operators (before ++ (item ∷ [])) ≡ ops = operators-append before (item ∷ []) ∙ append-nil ops in
    let rs : rules (before ++ (item ∷ [])) ≡ rules before ++ (r ∷ []) = rules-append before (item ∷ []) in
    let n : nonterminals (before ++ (item ∷ [])) ≡ with_words nts ws =
    rw (o, rs, flat_map-snoc (nonterminal_words ops) (rules before) r) (with_words-append [] (flat_map (nonterminal_words ops) (rules before)) ws) in
    let kids = kids_pass ops us r.pattern p.arity in
    let whole = rule_settled ops nts r kids.right in
    let known : IsKnownRule ops (with_words nts ws) (us ++ r.pattern) r = record {
      left = whole.0;
      names = names_known ops (with_words nts ws) (us ++ r.pattern) r.pattern kids.right whole.1 (firsts ops us r.pattern p.arity) kids.few;
      range = range_known (is_nullary ops r.pattern) (range_at r.tail) p.range_place;
      costs = p.cost_large;
    } in
    let earlier : AllByRecursion (IsKnownRule ops (with_words nts ws) (us ++ r.pattern)) (rules before) =
    all_map (IsKnownRule ops nts us) (IsKnownRule ops (with_words nts ws) (us ++ r.pattern)) (rules before) (known_stays ops nts us r.pattern ws) h.rules_known in
    known_as (before ++ (item ∷ [])) ops (with_words nts ws) (rules before ++ (r ∷ [])) o n rs h.few_operators
    (one_longer most_rules (rules before) r (room_left most_rules (length (rules before)) r.left.at _ refl p.too_many_items))
    (few_words nts ws p.too_many_nonterminals h.few_nonterminals)
    (subst (λ x. AllByRecursion (IsKnownRule ops (with_words nts ws) x) (rules before ++ (r ∷ []))) (sym (flat_map-snoc (λ x. x.pattern) (rules before) r))
    (all_append (IsKnownRule ops (with_words nts ws) (us ++ r.pattern)) (rules before) (r ∷ []) earlier (known, tt)))

-- one entry more, where there is no rule yet
known_entry : (before : List Item) (name number : Word) → IsKnown before → check before (EntryItem name number) ≡ None → rules before ≡ [] → IsKnown (before ++ (EntryItem name number ∷ []))
known_entry before name number h passed alone =
    let item = EntryItem name number in
    let rs : rules (before ++ (item ∷ [])) ≡ [] = rules-append before (item ∷ []) ∙ append-nil (rules before) ∙ alone in
    known_as (before ++ (item ∷ [])) (operators before ++ (name.bytes ∷ [])) [] [] (operators-append before (item ∷ []))
    (ap (λ x. with_words [] (flat_map (nonterminal_words (operators (before ++ (item ∷ [])))) x)) rs) rs
    (one_longer most_operators (operators before) name.bytes (room_left most_operators (length (operators before)) name.at _ refl (passes before item passed).too_many_items))
    (omega arith) (omega arith) tt

-- one item more that is neither
known_beside : (before : List Item) (item : Item) → operators (item ∷ []) ≡ [] → rules (item ∷ []) ≡ [] → IsKnown before → IsKnown (before ++ (item ∷ []))
known_beside before item a b h =
    let o : operators (before ++ (item ∷ [])) ≡ operators before = operators-append before (item ∷ []) ∙ ap (λ x. operators before ++ x) a ∙ append-nil (operators before) in
    let r : rules (before ++ (item ∷ [])) ≡ rules before = rules-append before (item ∷ []) ∙ ap (λ x. rules before ++ x) b ∙ append-nil (rules before) in
    known_as (before ++ (item ∷ [])) (operators before) (nonterminals before) (rules before) o
    (ap (λ x. with_words [] (flat_map (nonterminal_words x) (rules (before ++ (item ∷ []))))) o ∙ ap (λ x. with_words [] (flat_map (nonterminal_words (operators before)) x)) r) r
    h.few_operators h.few_rules h.few_nonterminals h.rules_known

known_item : (before : List Item) (item : Item) → IsKnown before → check before item ≡ None → StandsRight before item → IsKnown (before ++ (item ∷ []))
known_item before (RuleItem r) h passed s = known_rule before r h passed
known_item before (EntryItem name number) h passed s = known_entry before name number h passed s
known_item before (StartItem w) h passed s = known_beside before (StartItem w) refl refl h
known_item before CodeItem h passed s = known_beside before CodeItem refl refl h
known_item before (PercentsItem at) h passed s = known_beside before (PercentsItem at) refl refl h

pub known_none : IsKnown []
known_none = record { few_operators = omega arith; few_rules = omega arith; few_nonterminals = omega arith; rules_known = tt }

both_none : (o p : Option Fault) → or_fault o p ≡ None → (o ≡ None) × (p ≡ None)
both_none None p h = (refl, h)
both_none (Some f) p h = absurd (cc)

-- Items more that passed their checks, where d says that there is no rule yet.
pub known_more : (d : Bool) (items before : List Item) → IsKnown before → check_all before items ≡ None → (d ≡ true → rules before ≡ []) → (d ≡ true → rules items ≡ [])
    → ((xs : List Item) → (d ≡ true → rules xs ≡ []) → AllByRecursion (StandsRight xs) items) → IsKnown (before ++ items)
known_more d [] before h passed none alone order = subst IsKnown (sym (append-nil before)) h
known_more d (item ∷ items) before h passed none alone order =
    let both = both_none (check before item) (check_all (before ++ (item ∷ [])) items) passed in
    let apart : d ≡ true → (rules (item ∷ []) ≡ []) × (rules items ≡ []) = λ e. no_rules item items (alone e) in
    subst IsKnown (append_assoc before (item ∷ []) items)
    (known_more d items (before ++ (item ∷ [])) (known_item before item h both.0 (order before none).0) both.1
    (λ e. rules-append before (item ∷ []) ∙ ap (λ x. x ++ rules (item ∷ [])) (none e) ∙ (apart e).0) (λ e. (apart e).1) (λ xs k. (order xs k).1))
  where
    no_rules : (x : Item) (xs : List Item) → rules (x ∷ xs) ≡ [] → (rules (x ∷ []) ≡ []) × (rules xs ≡ [])
    no_rules (StartItem w) xs h = (refl, h)
    no_rules (EntryItem name number) xs h = (refl, h)
    no_rules CodeItem xs h = (refl, h)
    no_rules (PercentsItem at) xs h = (refl, h)
    no_rules (RuleItem r) xs h = absurd (cc)
