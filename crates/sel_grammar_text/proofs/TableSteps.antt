-- What the tables stand for behind one more item.
use Rattle.std.proofs.Common.{◌≡◌, ℕ, ◌+◌, ◌≤◌, List, [], ◌∷◌, ◌++◌, Option, Some, None, Bool, true, false, length, refl, ap, sym, ◌∙◌, arith, map, subst}
use Rattle.std.specs.Prelude.{option_map, nat_le, Result, Ok, Err, OnOk}
use Rattle.std.specs.Str.Parse.{digits_value}
use Rattle.std.proofs.Common.{length-append}
use Rattle.sel_grammar_text.specs.Checks.{place_if}
use Rattle.std.specs.List.{flat_map}
use Rattle.std.proofs.lemmas.List.{append-nil, map-append, length-map}
use Rattle.sel_grammar.specs.Limits.{most_operators, most_nonterminals}
use Rattle.sel_grammar_text.specs.declared.tables.Tables.{Tables}
use Rattle.sel_grammar_text.specs.Items.{Word, RuleText, Item, StartItem, EntryItem, CodeItem, PercentsItem, RuleItem}
use Rattle.sel_grammar_text.specs.Names.{operators, rules, leaves, nonterminal_words, with_words, nonterminals, uses}
use Rattle.sel_grammar_text.specs.Meaning.{operators_of, rule_of}
use Rattle.sel_grammar_text.specs.GrammarText.{nonterminal_uses}
use Rattle.sel_grammar_text.specs.Places.{line_of, column_of}
use Rattle.sel_grammar_text.specs.Words.{view_word}
use Rattle.sel_grammar_text.specs.Tables.{start_word, or_word, operator_names, with_uses, noted, rule_at, Means, IsPlaced, StandsRight}
use Rattle.sel_grammar_text.specs.ItemFaults.{check}
use Rattle.sel_grammar_text.proofs.ItemLists.{operators-append, rules-append, operators_of-append, nonterminal_uses-append, nonterminal_uses_alone, start_word-append, with_words-append, with_uses-append, flat_map-snoc, operator_names_of, noted_uses, length-noted}
use Rattle.sel_grammar_text.proofs.NumberStays.{rule_stays, rule_settled}
use Rattle.sel_grammar_text.proofs.Passes.{passes, kids_pass, few_words}

-- an item that declares nothing and is no rule changes what no table but two stand for
means_beside : (bytes : List ℕ) (before : List Item) (item : Item) (t u : Tables) → operators (item ∷ []) ≡ [] → rules (item ∷ []) ≡ []
    → ((us : List (Word × ℕ)) → operators_of us (item ∷ []) ≡ [])
    → Means bytes before t → option_map view_word u.start ≡ or_word (start_word before) (start_word (item ∷ []))
    → map view_word u.uses.items ≡ with_uses (with_uses [] (nonterminal_uses (operators before) before)) (nonterminal_uses (operators before) (item ∷ []))
    → u.operators ≡ t.operators → u.nonterminals ≡ t.nonterminals → u.rules ≡ t.rules → u.lefts ≡ t.lefts
    → Means bytes (before ++ (item ∷ [])) u
means_beside bytes before item t u no_op no_rule none m s w a b c d =
    let o : operators (before ++ (item ∷ [])) ≡ operators before = operators-append before (item ∷ []) ∙ ap (λ x. operators before ++ x) no_op ∙ append-nil (operators before) in
    let r : rules (before ++ (item ∷ [])) ≡ rules before = rules-append before (item ∷ []) ∙ ap (λ x. rules before ++ x) no_rule ∙ append-nil (rules before) in
    record {
      start_is = s ∙ sym (start_word-append before (item ∷ []));
      operators_are = rw r (ap (λ v. v.items) a ∙ m.operators_are ∙ sym (operators_of-append (uses (rules before)) before (item ∷ []) ∙ ap (λ x. operators_of (uses (rules before)) before ++ x) (none (uses (rules before))) ∙ append-nil (operators_of (uses (rules before)) before)));
      nonterminals_are = rw (o, r) (ap (λ v. v.items) b ∙ m.nonterminals_are);
      lefts_are = rw r (ap (λ v. map view_word v.items) d ∙ m.lefts_are);
      rules_are = λ later. rw (o, r) (ap (λ v. v.items) c ∙ m.rules_are later);
      uses_are = rw o (w ∙ sym (ap (with_uses []) (nonterminal_uses-append (operators before) before (item ∷ [])) ∙ with_uses-append [] (nonterminal_uses (operators before) before) (nonterminal_uses (operators before) (item ∷ []))));
      few_operators = subst (λ v. length v.items ≤ most_operators) (sym a) m.few_operators;
      few_nonterminals = subst (λ v. length v.items ≤ most_nonterminals) (sym b) m.few_nonterminals;
    }

or_none : (o : Option Word) → o ≡ or_word o None
or_none None = refl
or_none (Some w) = refl

-- C text
pub means_code : (bytes : List ℕ) (before : List Item) (t : Tables) → Means bytes before t → Means bytes (before ++ (CodeItem ∷ [])) t
means_code bytes before t m = means_beside bytes before CodeItem t t refl refl (λ us. refl) m (m.start_is ∙ or_none (start_word before)) m.uses_are refl refl refl refl

-- `%%`
pub means_percents : (bytes : List ℕ) (before : List Item) (at : ℕ) (t : Tables) → Means bytes before t → Means bytes (before ++ (PercentsItem at ∷ [])) t
means_percents bytes before at t m = means_beside bytes before (PercentsItem at) t t refl refl (λ us. refl) m (m.start_is ∙ or_none (start_word before)) m.uses_are refl refl refl refl

-- what `%start` changes
pub record StartAdded (t u : Tables) (w : Word) : Type 0 where
  pub start_so : option_map view_word u.start ≡ or_word (option_map view_word t.start) (Some w)
  pub uses_so : map view_word u.uses.items ≡ with_uses (map view_word t.uses.items) (w ∷ [])
  pub rest : u ≡ record t { start = u.start; uses = u.uses }

pub means_start : (bytes : List ℕ) (before : List Item) (w : Word) (t u : Tables) → Means bytes before t → StartAdded t u w → Means bytes (before ++ (StartItem w ∷ [])) u
means_start bytes before w t u m a =
    means_beside bytes before (StartItem w) t u refl refl (λ us. refl) m (a.start_so ∙ ap (λ o. or_word o (Some w)) m.start_is) (a.uses_so ∙ ap (λ us. with_uses us (w ∷ [])) m.uses_are)
    (ap (λ x. x.operators) a.rest) (ap (λ x. x.nonterminals) a.rest) (ap (λ x. x.rules) a.rest) (ap (λ x. x.lefts) a.rest)

-- what an entry changes
pub record OperatorAdded (t u : Tables) (name number : Word) : Type 0 where
  pub operators_so : u.operators.items ≡ t.operators.items ++ (record { name = name.bytes; external = digits_value 10 number.bytes; arity = None } ∷ [])
  pub rest : u ≡ record t { operators = u.operators }

few_more : (b : Bool) (n at : ℕ) → nat_le most_operators n ≡ b → place_if b at ≡ None → n + 1 ≤ most_operators
few_more true n at e h = absurd (cc)
few_more false n at e h = grind (arith, e)

pub means_entry : (bytes : List ℕ) (before : List Item) (name number : Word) (t u : Tables) → Means bytes before t → check before (EntryItem name number) ≡ None → rules before ≡ []
    → OperatorAdded t u name number → Means bytes (before ++ (EntryItem name number ∷ [])) u
means_entry bytes before name number t u m passed alone a =
    let item = EntryItem name number in
    let r : rules (before ++ (item ∷ [])) ≡ [] = rules-append before (item ∷ []) ∙ append-nil (rules before) ∙ alone in
    let o : operators (before ++ (item ∷ [])) ≡ operators before ++ (name.bytes ∷ []) = operators-append before (item ∷ []) in
    let known : operators_of (uses (rules before)) before ≡ operators_of [] before = ap (λ rs. operators_of (uses rs) before) alone in
    let few : length t.operators.items + 1 ≤ most_operators =
    few_more _ (length t.operators.items) name.at
    (ap (λ n. nat_le most_operators n) (ap length m.operators_are ∙ sym (length-map (operators_of (uses (rules before)) before) (λ o. o.name)) ∙ ap length (operator_names_of (uses (rules before)) before)))
    (passes before item passed).too_many_items in
    record {
      start_is = ap (λ x. option_map view_word x.start) a.rest ∙ m.start_is ∙ or_none (start_word before) ∙ sym (start_word-append before (item ∷ []));
      operators_are = rw r (a.operators_so ∙ ap (λ x. x ++ (record { name = name.bytes; external = digits_value 10 number.bytes; arity = None } ∷ [])) (m.operators_are ∙ known) ∙ sym (operators_of-append [] before (item ∷ [])));
      nonterminals_are = rw r (ap (λ x. x.nonterminals.items) a.rest ∙ m.nonterminals_are ∙ rw alone refl);
      lefts_are = rw r (ap (λ x. map view_word x.lefts.items) a.rest ∙ m.lefts_are ∙ rw alone refl);
      rules_are = λ later. rw r (ap (λ x. x.rules.items) a.rest ∙ m.rules_are later ∙ rw alone refl);
      uses_are = ap (λ x. map view_word x.uses.items) a.rest ∙ m.uses_are
          ∙ ap (with_uses []) (nonterminal_uses_alone (operators before) (operators (before ++ (item ∷ []))) before alone ∙ sym (nonterminal_uses-append (operators (before ++ (item ∷ []))) before (item ∷ []) ∙ append-nil (nonterminal_uses (operators (before ++ (item ∷ []))) before)));
      few_operators = omega (arith, few, ap length a.operators_so, length-append t.operators.items (record { name = name.bytes; external = digits_value 10 number.bytes; arity = None } ∷ []));
      few_nonterminals = subst (λ x. length x.nonterminals.items ≤ most_nonterminals) (sym a.rest) m.few_nonterminals;
    }

-- what a rule changes
pub record RuleAdded (line column : ℕ) (t u : Tables) (r : RuleText) : Type 0 where
  pub start_so : u.start ≡ t.start
  pub operators_so : u.operators.items ≡ noted r.pattern t.operators.items
  pub nonterminals_so : u.nonterminals.items ≡ with_words t.nonterminals.items (nonterminal_words (operator_names t.operators.items) r)
  pub rules_so : u.rules.items ≡ t.rules.items ++ (rule_at line column (operator_names t.operators.items) u.nonterminals.items r ∷ [])
  pub lefts_so : map view_word u.lefts.items ≡ map view_word t.lefts.items ++ (r.left ∷ [])
  pub uses_so : map view_word u.uses.items ≡ with_uses (map view_word t.uses.items) (leaves (operator_names t.operators.items) r.pattern)

pub means_rule : (bytes : List ℕ) (before : List Item) (r : RuleText) (line column : ℕ) (t u : Tables) → Means bytes before t → check before (RuleItem r) ≡ None
    → (line ≡ line_of bytes r.left.at) × (column ≡ column_of bytes r.left.at) → RuleAdded line column t u r → Means bytes (before ++ (RuleItem r ∷ [])) u
means_rule bytes before r line column t u m passed placed a =
    let item = RuleItem r in
    let p = passes before item passed in
    let ops : operator_names t.operators.items ≡ operators before = ap operator_names m.operators_are ∙ operator_names_of (uses (rules before)) before in
    let o : operators (before ++ (item ∷ [])) ≡ operators before = operators-append before (item ∷ []) ∙ append-nil (operators before) in
    let rs : rules (before ++ (item ∷ [])) ≡ rules before ++ (r ∷ []) = rules-append before (item ∷ []) in
    let us : uses (rules before ++ (r ∷ [])) ≡ uses (rules before) ++ r.pattern = flat_map-snoc (λ x. x.pattern) (rules before) r in
    let ws = nonterminal_words (operators before) r in
    let whole = with_words (nonterminals before) ws in
    let nts : nonterminals (before ++ (item ∷ [])) ≡ with_words (nonterminals before) ws =
    rw (o, rs, flat_map-snoc (nonterminal_words (operators before)) (rules before) r) (with_words-append [] (flat_map (nonterminal_words (operators before)) (rules before)) ws) in
    let new : u.nonterminals.items ≡ with_words (nonterminals before) ws = a.nonterminals_so ∙ ap (λ x. with_words x (nonterminal_words (operator_names t.operators.items) r)) m.nonterminals_are ∙ ap (λ x. with_words (nonterminals before) (nonterminal_words x r)) ops in
    let kids = kids_pass (operators before) (uses (rules before)) r.pattern p.arity in
    let settled = rule_settled (operators before) (nonterminals before) r kids.right in
    record {
      start_is = ap (option_map view_word) a.start_so ∙ m.start_is ∙ or_none (start_word before) ∙ sym (start_word-append before (item ∷ []));
      operators_are = rw (rs, us) (a.operators_so ∙ ap (noted r.pattern) m.operators_are ∙ noted_uses r.pattern (uses (rules before)) before
          ∙ sym (operators_of-append (uses (rules before) ++ r.pattern) before (item ∷ []) ∙ append-nil (operators_of (uses (rules before) ++ r.pattern) before)));
      nonterminals_are = new ∙ sym nts;
      lefts_are = rw rs (a.lefts_so ∙ ap (λ x. x ++ (r.left ∷ [])) m.lefts_are ∙ sym (map-append (λ x. x.left) (rules before) (r ∷ [])));
      rules_are = λ later.
          let said : rule_at line column (operator_names t.operators.items) u.nonterminals.items r ≡ rule_of bytes (operators before) (with_words whole later) r =
          ap (λ x. rule_at line column x u.nonterminals.items r) ops ∙ ap (λ x. rule_at line column (operators before) x r) new ∙ sym (rule_stays line column (operators before) whole later r settled.0 settled.1)
          ∙ ap (λ x. rule_at x column (operators before) (with_words whole later) r) placed.0 ∙ ap (λ x. rule_at (line_of bytes r.left.at) x (operators before) (with_words whole later) r) placed.1 in
          let earlier : t.rules.items ≡ map (rule_of bytes (operators before) (with_words whole later)) (rules before) =
          m.rules_are (ws ++ later) ∙ ap (λ x. map (rule_of bytes (operators before) x) (rules before)) (with_words-append (nonterminals before) ws later) in
          a.rules_so
          ∙ ap (λ x. x ++ (rule_at line column (operator_names t.operators.items) u.nonterminals.items r ∷ [])) earlier
          ∙ ap (λ x. map (rule_of bytes (operators before) (with_words whole later)) (rules before) ++ (x ∷ [])) said
          ∙ sym (ap (λ x. map (rule_of bytes x (with_words (nonterminals (before ++ (item ∷ []))) later)) (rules (before ++ (item ∷ [])))) o
          ∙ ap (λ x. map (rule_of bytes (operators before) (with_words x later)) (rules (before ++ (item ∷ [])))) nts
          ∙ ap (map (rule_of bytes (operators before) (with_words whole later))) rs
          ∙ map-append (rule_of bytes (operators before) (with_words whole later)) (rules before) (r ∷ []));
      uses_are = a.uses_so ∙ ap (λ x. with_uses x (leaves (operator_names t.operators.items) r.pattern)) m.uses_are
          ∙ ap (λ x. with_uses (with_uses [] (nonterminal_uses (operators before) before)) (leaves x r.pattern)) ops
          ∙ sym (ap (λ x. with_uses [] (nonterminal_uses x (before ++ (item ∷ [])))) o
          ∙ ap (with_uses []) (nonterminal_uses-append (operators before) before (item ∷ []) ∙ ap (λ x. nonterminal_uses (operators before) before ++ x) (append-nil (leaves (operators before) r.pattern)))
          ∙ with_uses-append [] (nonterminal_uses (operators before) before) (leaves (operators before) r.pattern));
      few_operators = subst (λ n. n ≤ most_operators) (sym (ap length a.operators_so ∙ length-noted r.pattern t.operators.items)) m.few_operators;
      few_nonterminals = subst (λ x. length x ≤ most_nonterminals) (sym new)
          (few_words (nonterminals before) ws p.too_many_nonterminals (subst (λ x. length x ≤ most_nonterminals) m.nonterminals_are m.few_nonterminals));
    }

-- one item more is in the tables
abbrev pub IsAdded : ℕ → ℕ → Item → Tables → Tables → Type 0
IsAdded line column item t u = (bytes : List ℕ) (before : List Item) → Means bytes before t → check before item ≡ None → StandsRight before item → IsPlaced bytes line column item
    → Means bytes (before ++ (item ∷ [])) u

pub start_added : {T E : Type 0} (o : Result T E) (line column : ℕ) (item : Item) (w : Word) (t u : Tables) → item ≡ StartItem w
    → OnOk o (option_map view_word u.start ≡ or_word (option_map view_word t.start) (Some w)) → OnOk o (map view_word u.uses.items ≡ with_uses (map view_word t.uses.items) (w ∷ []))
    → OnOk o (u ≡ record t { start = u.start; uses = u.uses }) → OnOk o (IsAdded line column item t u)
start_added (Err e) line column item w t u i a b c = tt
start_added (Ok x) line column item w t u i a b c = λ bytes before m p q z. rw i (means_start bytes before w t u m (record { start_so = a; uses_so = b; rest = c }))

pub entry_added : {T E : Type 0} (o : Result T E) (line column : ℕ) (item : Item) (name number : Word) (t u : Tables) → item ≡ EntryItem name number
    → OnOk o (u.operators.items ≡ t.operators.items ++ (record { name = name.bytes; external = digits_value 10 number.bytes; arity = None } ∷ []))
    → OnOk o (u ≡ record t { operators = u.operators }) → OnOk o (IsAdded line column item t u)
entry_added (Err e) line column item name number t u i a b = tt
entry_added (Ok x) line column item name number t u i a b = λ bytes before m p q z.
    rw i (means_entry bytes before name number t u m (subst (λ x. check before x ≡ None) i p) (subst (StandsRight before) i q) (record { operators_so = a; rest = b }))

pub rule_added : {T E : Type 0} (o : Result T E) (line column : ℕ) (item : Item) (r : RuleText) (t u : Tables) → item ≡ RuleItem r
    → OnOk o (u.start ≡ t.start) → OnOk o (u.operators.items ≡ noted r.pattern t.operators.items)
    → OnOk o (u.nonterminals.items ≡ with_words t.nonterminals.items (nonterminal_words (operator_names t.operators.items) r))
    → OnOk o (u.rules.items ≡ t.rules.items ++ (rule_at line column (operator_names t.operators.items) u.nonterminals.items r ∷ []))
    → OnOk o (map view_word u.lefts.items ≡ map view_word t.lefts.items ++ (r.left ∷ []))
    → OnOk o (map view_word u.uses.items ≡ with_uses (map view_word t.uses.items) (leaves (operator_names t.operators.items) r.pattern)) → OnOk o (IsAdded line column item t u)
rule_added (Err e) line column item r t u i a b c d f g = tt
rule_added (Ok x) line column item r t u i a b c d f g = λ bytes before m p q z.
    rw i (means_rule bytes before r line column t u m (subst (λ x. check before x ≡ None) i p) (subst (IsPlaced bytes line column) i z)
    (record { start_so = a; operators_so = b; nonterminals_so = c; rules_so = d; lefts_so = f; uses_so = g }))
