-- The number of a name stays where names are added behind it.
use Rattle.std.proofs.Common.{◌≡◌, ℕ, ◌+◌, List, [], ◌∷◌, ◌++◌, Bool, true, false, refl, ap, ◌∙◌, arith, cond, eqb, ◌||◌, ◌&&◌, map}
use Rattle.std.specs.Prelude.{not, bytes_eq}
use Rattle.std.proofs.lemmas.Slice.Eq.{bytes_eq-Decides}
use Rattle.sel_grammar_text.specs.declared.pattern.PatternName.TheVariants.{Operator, Nonterminal}
use Rattle.std.specs.List.{AllByRecursion}
use Rattle.sel_grammar_text.specs.Items.{Word, RuleText}
use Rattle.sel_grammar_text.specs.Names.{number_of, is_among, leaves, nonterminal_words, with_words}
use Rattle.sel_grammar_text.specs.Patterns.{numbered, built}
use Rattle.sel_grammar_text.specs.Meaning.{parts_of_tail, cost_of, range_of, external_of}
use Rattle.sel_grammar_text.specs.Tables.{rule_at}

pub among_more : (names : List (List ℕ)) (name more : List ℕ) → is_among names name ≡ true → is_among (names ++ (more ∷ [])) name ≡ true
among_more [] name more h = absurd (cc)
among_more (n ∷ names) name more h = go (bytes_eq n name) h (among_more names name more)
  where
    go : (b : Bool) → (b || is_among names name) ≡ true → (is_among names name ≡ true → is_among (names ++ (more ∷ [])) name ≡ true) → (b || is_among (names ++ (more ∷ [])) name) ≡ true
    go true h k = refl
    go false h k = k h

pub number_more : (names : List (List ℕ)) (name more : List ℕ) → is_among names name ≡ true → number_of (names ++ (more ∷ [])) name ≡ number_of names name
number_more [] name more h = absurd (cc)
number_more (n ∷ names) name more h = go (bytes_eq n name) h (number_more names name more)
  where
    go : (b : Bool) → (b || is_among names name) ≡ true → (is_among names name ≡ true → number_of (names ++ (more ∷ [])) name ≡ number_of names name)
        → cond (not b) (1 + number_of (names ++ (more ∷ [])) name) 0 ≡ cond (not b) (1 + number_of names name) 0
    go true h k = refl
    go false h k = ap (λ n. 1 + n) (k h)

-- the word is among the names with it behind them
pub among_added : (names : List (List ℕ)) (name : List ℕ) → is_among (cond (is_among names name) names (names ++ (name ∷ []))) name ≡ true
among_added names name = go (is_among names name) refl
  where
    or_true : (x y : Bool) → y ≡ true → (x || y) ≡ true
    or_true true y h = refl
    or_true false y h = h

    last : (ns : List (List ℕ)) → is_among (ns ++ (name ∷ [])) name ≡ true
    last [] = rw ((bytes_eq-Decides name name).1 refl) refl
    last (n ∷ ns) = or_true (bytes_eq n name) (is_among (ns ++ (name ∷ [])) name) (last ns)

    go : (b : Bool) → is_among names name ≡ b → is_among (cond b names (names ++ (name ∷ []))) name ≡ true
    go true h = h
    go false h = last names

pub record Stays (before after : List (List ℕ)) (name : List ℕ) : Type 0 where
  pub among : is_among after name ≡ true
  pub number : number_of after name ≡ number_of before name

-- a name among them stays among them, under its number
pub stays : (names : List (List ℕ)) (words : List Word) (name : List ℕ) → is_among names name ≡ true → Stays names (with_words names words) name
stays names [] name h = record { among = h; number = refl }
stays names (w ∷ words) name h = go (is_among names w.bytes) (λ ns k. stays ns words name k)
  where
    go : (b : Bool) → ((ns : List (List ℕ)) → is_among ns name ≡ true → Stays ns (with_words ns words) name) → Stays names (with_words (cond b names (names ++ (w.bytes ∷ []))) words) name
    go true k = k names h
    go false k = let s = k (names ++ (w.bytes ∷ [])) (among_more names name w.bytes h) in record { among = s.among; number = s.number ∙ number_more names name w.bytes h }

-- each name of a pattern that is no operator is among the nonterminals
abbrev pub IsSettled : List (List ℕ) → List (List ℕ) → List (Word × ℕ) → Type 0
IsSettled ops nts names = AllByRecursion (λ n. is_among ops n.0.bytes ≡ false → is_among nts n.0.bytes ≡ true) names

-- each name of a pattern that is no operator has no kids
abbrev pub HasKidsRight : List (List ℕ) → List (Word × ℕ) → Type 0
HasKidsRight ops names = AllByRecursion (λ n. is_among ops n.0.bytes ≡ false → n.1 ≡ 0) names

-- the words of a pattern settle it
pub settled : (ops nts : List (List ℕ)) (names : List (Word × ℕ)) → HasKidsRight ops names → IsSettled ops (with_words nts (leaves ops names)) names
settled ops nts [] h = tt
settled ops nts (n ∷ names) h = go (is_among ops n.0.bytes) refl (eqb n.1 0) refl (λ m. settled ops m names h.1)
  where
    go : (b : Bool) → is_among ops n.0.bytes ≡ b → (z : Bool) → eqb n.1 0 ≡ z → ((m : List (List ℕ)) → IsSettled ops (with_words m (leaves ops names)) names)
        → IsSettled ops (with_words nts (cond (z && not b) (n.0 ∷ leaves ops names) (leaves ops names))) (n ∷ names)
    go true e true f k = ((λ no. absurd (cc)), k nts)
    go true e false f k = ((λ no. absurd (cc)), k nts)
    go false e true f k =
        let added = cond (is_among nts n.0.bytes) nts (nts ++ (n.0.bytes ∷ [])) in
        ((λ no. (stays added (leaves ops names) n.0.bytes (among_added nts n.0.bytes)).among), k added)
    go false e false f k = absurd (let z : n.1 ≡ 0 = h.0 e in grind (arith, f, z))

numbered_stays : (ops nts more : List (List ℕ)) (n : Word × ℕ) → (is_among ops n.0.bytes ≡ false → number_of more n.0.bytes ≡ number_of nts n.0.bytes) → numbered ops more n ≡ numbered ops nts n
numbered_stays ops nts more n h = go (is_among ops n.0.bytes) refl
  where
    go : (b : Bool) → is_among ops n.0.bytes ≡ b
        → cond b (Operator (number_of ops n.0.bytes) n.1) (Nonterminal (number_of more n.0.bytes)) ≡ cond b (Operator (number_of ops n.0.bytes) n.1) (Nonterminal (number_of nts n.0.bytes))
    go true e = refl
    go false e = ap Nonterminal (h e)

names_stay : (ops nts : List (List ℕ)) (words : List Word) (names : List (Word × ℕ)) → IsSettled ops nts names
    → map (numbered ops (with_words nts words)) names ≡ map (numbered ops nts) names
names_stay ops nts words [] h = refl
names_stay ops nts words (n ∷ names) h =
    let a : numbered ops (with_words nts words) n ≡ numbered ops nts n = numbered_stays ops nts (with_words nts words) n (λ no. (stays nts words n.0.bytes (h.0 no)).number) in
    rw (a, names_stay ops nts words names h.1) refl

-- a rule whose names are among the nonterminals says the same whichever come later
pub rule_stays : (line column : ℕ) (ops nts : List (List ℕ)) (words : List Word) (r : RuleText) → is_among nts r.left.bytes ≡ true → IsSettled ops nts r.pattern
    → rule_at line column ops (with_words nts words) r ≡ rule_at line column ops nts r
rule_stays line column ops nts words r left pattern =
    rw (stays nts words r.left.bytes left).number (ap (λ names. record {
      left = number_of nts r.left.bytes;
      pattern = (built names).0;
      template = record { parts = parts_of_tail r.tail };
      cost = cost_of r.tail;
      range = range_of r.tail;
      external = external_of r.tail;
      line = line;
      column = column;
    }) (names_stay ops nts words r.pattern pattern))

-- the words of a rule settle it
pub rule_settled : (ops nts : List (List ℕ)) (r : RuleText) → HasKidsRight ops r.pattern
    → (is_among (with_words nts (nonterminal_words ops r)) r.left.bytes ≡ true) × IsSettled ops (with_words nts (nonterminal_words ops r)) r.pattern
rule_settled ops nts r h =
    let added = cond (is_among nts r.left.bytes) nts (nts ++ (r.left.bytes ∷ [])) in
    ((stays added (leaves ops r.pattern) r.left.bytes (among_added nts r.left.bytes)).among, settled ops added r.pattern h)
