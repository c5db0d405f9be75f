-- A pattern whose names are known is the grammar's.
use Rattle.std.proofs.Common.{◌≡◌, ℕ, suc, ◌+◌, ◌<◌, ◌≤◌, inl, inr, List, [], ◌∷◌, Some, None, Bool, true, false, length, refl, ap, sym, ◌∙◌, subst, arith, cond, eqb, ◌||◌, ◌&&◌, map}
use Rattle.std.specs.Prelude.{not, bytes_eq, nat_lt, slice_get}
use Rattle.std.specs.Str.Parse.{digits_value}
use Rattle.std.specs.List.{AllByRecursion}
use Rattle.std.proofs.lemmas.List.{length-map}
use Rattle.std.proofs.lemmas.Slice.Eq.{bytes_eq-Decides}
use Rattle.sel_grammar.specs.Limits.{most_names}
use Rattle.sel_grammar.specs.Lawful.{names_of, IsPatternOf, IsRuleOf}
use Rattle.sel_grammar.specs.declared.grammar.Grammar.{Grammar}
use Rattle.sel_grammar.specs.declared.grammar.Operator.{Operator}
use Rattle.sel_grammar.specs.declared.grammar.Pattern.{Pattern, Nullary}
use Rattle.sel_grammar_text.specs.declared.pattern.PatternName.{PatternName}
use Rattle.sel_grammar_text.specs.declared.pattern.PatternName.TheVariants as pattern
use Rattle.sel_grammar_text.specs.Items.{Word, NoCost, Amount, Ranged, TailText, OneLine, Burg, RuleText, Item, StartItem, EntryItem, CodeItem, PercentsItem, RuleItem}
use Rattle.sel_grammar_text.specs.Names.{is_among, number_of, operators, rules, nonterminals, uses, first_use}
use Rattle.sel_grammar_text.specs.Patterns.{numbered, built, pattern_of}
use Rattle.sel_grammar_text.specs.Checks.{is_nullary, range_at}
use Rattle.sel_grammar_text.specs.Meaning.{operators_of, rule_of, range_of, start_of, grammar_of}
use Rattle.sel_grammar_text.proofs.NameNumbers.{is_among_number}
use Rattle.sel_grammar_text.proofs.Commas.{kids_sum}
use Rattle.sel_grammar_text.proofs.NameCounts.{HasFewNames}
use Rattle.sel_grammar_text.proofs.Shape.{IsNameOf, kids_of, leaf_names, Fits, built_fits}
use Rattle.sel_grammar_text.proofs.Known.{IsKnownName, IsKnownRule}
use Rattle.sel_grammar_text.proofs.TailCosts.{small_tail}

-- the grammar that the items say
abbrev pub said : List ℕ → List Item → Grammar
said bytes items = record {
  start = start_of (nonterminals items) items;
  operators = operators_of (uses (rules items)) items;
  nonterminals = nonterminals items;
  rules = map (rule_of bytes (operators items) (nonterminals items)) (rules items);
}

pub said_so : (bytes : List ℕ) (items : List Item) → grammar_of bytes items ≡ said bytes items
unfolding grammar_of
said_so bytes items = refl

pub number_below : (names : List (List ℕ)) (name : List ℕ) → is_among names name ≡ true → number_of names name < length names
number_below names name h = let t : nat_lt (number_of names name) (length names) ≡ true = sym (is_among_number names name) ∙ h in grind (arith, t)

-- an operator stands at its name's number, with as many kids as at its first use
record OperatorAt (us : List (Word × ℕ)) (ops : List Operator) (number : ℕ) (name : List ℕ) : Type 0 where
  operator : Operator
  there : slice_get ops number ≡ Some operator
  arity : operator.arity ≡ first_use us name

operator_at : (us : List (Word × ℕ)) (items : List Item) (name : List ℕ) → is_among (operators items) name ≡ true → OperatorAt us (operators_of us items) (number_of (operators items) name) name
operator_at us [] name h = absurd (cc)
operator_at us (StartItem w ∷ items) name h = operator_at us items name h
operator_at us (EntryItem n number ∷ items) name h = go (bytes_eq n.bytes name) refl h (operator_at us items name)
  where
    go : (b : Bool) → bytes_eq n.bytes name ≡ b → (b || is_among (operators items) name) ≡ true
        → (is_among (operators items) name ≡ true → OperatorAt us (operators_of us items) (number_of (operators items) name) name)
        → OperatorAt us (operators_of us (EntryItem n number ∷ items)) (cond (not b) (1 + number_of (operators items) name) 0) name
    go true e h k = record {
      operator = record { name = n.bytes; external = digits_value 10 number.bytes; arity = first_use us n.bytes };
      there = refl;
      arity = ap (first_use us) ((bytes_eq-Decides n.bytes name).0 e);
    }
    go false e h k =
        let o = k h in
        let next : suc (number_of (operators items) name) ≡ 1 + number_of (operators items) name = omega arith in
        record { operator = o.operator; there = subst (λ m. slice_get (operators_of us (EntryItem n number ∷ items)) m ≡ Some o.operator) next o.there; arity = o.arity }
operator_at us (CodeItem ∷ items) name h = operator_at us items name h
operator_at us (PercentsItem at ∷ items) name h = operator_at us items name h
operator_at us (RuleItem r ∷ items) name h = operator_at us items name h

-- a known name by its number is the grammar's
name_known : (bytes : List ℕ) (items : List Item) (n : Word × ℕ) → IsKnownName (operators items) (nonterminals items) (uses (rules items)) n
    → IsNameOf (said bytes items) (numbered (operators items) (nonterminals items) n)
name_known bytes items n h = go (is_among (operators items) n.0.bytes) refl
  where
    go : (b : Bool) → is_among (operators items) n.0.bytes ≡ b
        → IsNameOf (said bytes items) (cond b (pattern.Operator (number_of (operators items) n.0.bytes) n.1) (pattern.Nonterminal (number_of (nonterminals items) n.0.bytes)))
    go true e = let o = operator_at (uses (rules items)) items n.0.bytes e in ((o.operator, o.there, o.arity ∙ h.first e), h.few)
    go false e = number_below (nonterminals items) n.0.bytes (h.settled e)

all_mapped : {X Y : Type 0} (P : X → Type 0) (Q : Y → Type 0) (f : X → Y) (xs : List X) → ((x : X) → P x → Q (f x)) → AllByRecursion P xs → AllByRecursion Q (map f xs)
all_mapped P Q f [] g h = tt
all_mapped P Q f (x ∷ xs) g h = (g x h.0, all_mapped P Q f xs g h.1)

-- the kids are no more than the text says
kids_less : (ops nts : List (List ℕ)) (names : List (Word × ℕ)) → kids_of (map (numbered ops nts) names) ≤ kids_sum names
kids_less ops nts [] = omega arith
kids_less ops nts (n ∷ names) = go (is_among ops n.0.bytes) (kids_less ops nts names)
  where
    go : (b : Bool) → kids_of (map (numbered ops nts) names) ≤ kids_sum names
        → kids_of (cond b (pattern.Operator (number_of ops n.0.bytes) n.1) (pattern.Nonterminal (number_of nts n.0.bytes)) ∷ map (numbered ops nts) names) ≤ n.1 + kids_sum names
    go true h = omega (arith, h)
    go false h = omega (arith, h)

-- the pattern is the grammar's, and not too large
record IsGood (g : Grammar) (p : Pattern) : Type 0 where
  pattern : IsPatternOf g p
  names : names_of p ≤ most_names

-- the pattern that the names build
pub pattern_fits : (bytes : List ℕ) (items : List Item) (names : List (Word × ℕ)) → AllByRecursion (IsKnownName (operators items) (nonterminals items) (uses (rules items))) names → HasFewNames names
    → Fits (said bytes items) 0 (length (map (numbered (operators items) (nonterminals items)) names)) (leaf_names (map (numbered (operators items) (nonterminals items)) names)) (built (map (numbered (operators items) (nonterminals items)) names))
pattern_fits bytes items names known few =
    let xs : List PatternName = map (numbered (operators items) (nonterminals items)) names in
    let l : length (map (numbered (operators items) (nonterminals items)) names) ≡ length names = length-map names (numbered (operators items) (nonterminals items)) in
    let k = kids_less (operators items) (nonterminals items) names in
    let enough : kids_of (map (numbered (operators items) (nonterminals items)) names) + 1 ≤ length (map (numbered (operators items) (nonterminals items)) names) = omega (arith, l, k, few.kids) in
    built_fits (said bytes items) (length xs) 0 xs (omega arith)
    (all_mapped (IsKnownName (operators items) (nonterminals items) (uses (rules items))) (IsNameOf (said bytes items)) (numbered (operators items) (nonterminals items)) names (name_known bytes items) known) enough

pattern_known : (bytes : List ℕ) (items : List Item) (names : List (Word × ℕ)) → AllByRecursion (IsKnownName (operators items) (nonterminals items) (uses (rules items))) names → HasFewNames names
    → IsGood (said bytes items) (pattern_of (operators items) (nonterminals items) names)
pattern_known bytes items names known few =
    let l : length (map (numbered (operators items) (nonterminals items)) names) ≡ length names = length-map names (numbered (operators items) (nonterminals items)) in
    let f = pattern_fits bytes items names known few in
    record { pattern = f.pattern; names = omega (arith, f.count, l, few.few) }

-- one operator without kids
nullary_known : (ops nts : List (List ℕ)) (names : List (Word × ℕ)) → is_nullary ops names ≡ true → (op : ℕ) × (pattern_of ops nts names ≡ Nullary op)
nullary_known ops nts [] h = absurd (cc)
nullary_known ops nts (n ∷ m ∷ names) h = absurd (cc)
nullary_known ops nts (n ∷ []) h = go (is_among ops n.0.bytes) refl (eqb n.1 0) refl h
  where
    go : (b : Bool) → is_among ops n.0.bytes ≡ b → (z : Bool) → eqb n.1 0 ≡ z → (b && z) ≡ true → (op : ℕ) × (pattern_of ops nts (n ∷ []) ≡ Nullary op)
    go true e true f h =
        let none : n.1 ≡ 0 = grind (arith, f) in (
          number_of ops n.0.bytes,
          ap (λ b. (built (cond b (pattern.Operator (number_of ops n.0.bytes) n.1) (pattern.Nonterminal (number_of nts n.0.bytes)) ∷ [])).0) e ∙ ap (λ k. (built (pattern.Operator (number_of ops n.0.bytes) k ∷ [])).0) none,
        )
    go true e false f h = absurd (cc)
    go false e z f h = absurd (cc)

no_range : (tail : TailText) → range_at tail ≡ None → range_of tail ≡ None
no_range (OneLine w NoCost) h = refl
no_range (OneLine w (Amount n)) h = refl
no_range (OneLine w (Ranged at lo hi addend)) h = absurd (cc)
no_range (Burg external cost) h = refl

-- a known rule keeps what a grammar's rule keeps
pub rule_known : (bytes : List ℕ) (items : List Item) (r : RuleText) → IsKnownRule (operators items) (nonterminals items) (uses (rules items)) r → HasFewNames r.pattern
    → IsRuleOf (said bytes items) (rule_of bytes (operators items) (nonterminals items) r)
rule_known bytes items r h few =
    let p = pattern_known bytes items r.pattern h.names few in
    record {
      pattern = p.pattern;
      names = p.names;
      range = λ range e. elim h.range [
        | inl y ↦ nullary_known (operators items) (nonterminals items) r.pattern y
        | inr y ↦ let z : Some range ≡ None = sym e ∙ no_range r.tail y in absurd (let w : ⊥ = cc in w)
      ];
      cost = small_tail r.tail h.costs;
    }
