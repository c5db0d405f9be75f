-- The tokens of a printed tree: its line is cut into them, and they spell the tree.
use Rattle.std.proofs.Common.{◌≡◌, ℕ, zero, suc, ◌+◌, ◌<◌, ◌==◌, ◌^◌, Bool, true, false, not, ◌&&◌, ◌||◌, Some, List, [], ◌∷◌, ◌++◌, refl, ap, sym, ◌∙◌, subst, arith, append_assoc, slice_get, codes, length, take, drop, pos, negsuc, neg_ℤ, ℤ}
use Rattle.std.specs.Prelude.{bytes_eq, take_while}
use Rattle.std.specs.List.{list_all, prefix_len}
use Rattle.std.specs.Char.{is_ascii_digit, digit_value}
use Rattle.std.specs.Fmt.{decimal, signed_decimal}
use Rattle.std.specs.Str.Parse.{digits_value, AllDigits}
use Rattle.std.proofs.Math.Seq.{take-append_seam, drop-append_seam}
use Rattle.std.proofs.lemmas.List.Folds.{list_all-append}
use Rattle.std.proofs.lemmas.Int.{ints}
use Rattle.std.proofs.lemmas.Fmt.{decimal_is_IsNumeral}
use Rattle.std.proofs.lemmas.Str.Parse.{digit_from_value}
use Rattle.std.proofs.lemmas.Slice.Eq.{bytes_eq-Decides}
use Rattle.sel_grammar.specs.declared.grammar.Attribute.{Attribute}
use Rattle.sel_grammar.specs.declared.grammar.Attribute.TheVariants as attribute
use Rattle.sel_grammar.specs.declared.grammar.Grammar.{Grammar}
use Rattle.sel_grammar.specs.declared.grammar.Operator.{Operator}
use Rattle.sel_grammar.specs.PlainTrees.{PlainTree, Node0, Node1, Node2}
use Rattle.sel_forest.specs.Printed.{operator_name, name_of, attribute_text, tree_text, HasNames}
use Rattle.sel_forest.specs.Symbols.{is_blank, is_letter, is_name_byte, is_symbol_start, is_symbol_byte, IsName, IsSymbol}
use Rattle.sel_forest.specs.Tokens.{Token, Name, Number, Symbol, Colon, Open, Comma, Close, token_of, skip, width, is_colon, Spot, token_at, behind, first, start, IsCutInto}
use Rattle.sel_forest.specs.TreeText.{operator_number, value_of, SpellsAttribute, no_attribute, a_number, a_symbol, SpellsTree, no_kids, one_kid, two_kids}
use Rattle.sel_forest.specs.Valid.{IsOperatorOf, IsAttribute, IsOver}

and_left : (x y : Bool) → (x && y) ≡ true → x ≡ true
and_left true y h = refl
and_left false y h = h

and_right : (x y : Bool) → (x && y) ≡ true → y ≡ true
and_right true y h = h
and_right false y h = cc

both : (x y : Bool) → x ≡ true → y ≡ true → (x && y) ≡ true
both true y h k = k
both false y h k = h

or_right : (x y : Bool) → y ≡ true → (x || y) ≡ true
or_right true y h = refl
or_right false y h = h

pub clash : (x : Bool) → x ≡ true → x ≡ false → ⊥
clash x h k = cc

pub list_all-widened : (p q : ℕ → Bool) → ((b : ℕ) → p b ≡ true → q b ≡ true) → (bytes : List ℕ) → list_all p bytes ≡ true → list_all q bytes ≡ true
list_all-widened p q wider [] h = refl
list_all-widened p q wider (b ∷ bytes) h =
    both (q b) (list_all q bytes) (wider b (and_left (p b) (list_all p bytes) h)) (list_all-widened p q wider bytes (and_right (p b) (list_all p bytes) h))

-- bytes of names and symbols
letter_starts : (b : ℕ) → is_letter b ≡ true → is_symbol_start b ≡ true
letter_starts b h = rw h refl

pub start_symbol : (b : ℕ) → is_symbol_start b ≡ true → is_symbol_byte b ≡ true
start_symbol b h = rw h refl

digit_symbol : (b : ℕ) → is_ascii_digit b ≡ true → is_symbol_byte b ≡ true
digit_symbol b h = or_right (is_symbol_start b) (is_ascii_digit b) h

letter_name : (b : ℕ) → is_letter b ≡ true → is_name_byte b ≡ true
letter_name b h = rw h refl

pub name_symbol : (b : ℕ) → is_name_byte b ≡ true → is_symbol_byte b ≡ true
name_symbol b h = go (is_letter b) refl
  where
    go : (x : Bool) → is_letter b ≡ x → is_symbol_byte b ≡ true
    go true e = start_symbol b (letter_starts b e)
    go false e = let d : is_ascii_digit b ≡ true = sym (ap (λ x. x || is_ascii_digit b) e) ∙ h in digit_symbol b d

same_byte : (b n : ℕ) → (b == n) ≡ true → b ≡ n
same_byte b n e = grind (arith, e)

-- a symbol's byte isn't one that is no such byte
pub not_is : (n b : ℕ) → is_symbol_byte n ≡ false → is_symbol_byte b ≡ true → (b == n) ≡ false
not_is n b k h = go (b == n) refl
  where
    go : (x : Bool) → (b == n) ≡ x → (b == n) ≡ false
    go true e = let q = same_byte b n e in absurd (clash (is_symbol_byte b) h (ap is_symbol_byte q ∙ k))
    go false e = e

not_blank : (b : ℕ) → is_symbol_byte b ≡ true → is_blank b ≡ false
not_blank b h = rw (not_is 32 b refl h, not_is 9 b refl h, not_is 13 b refl h, not_is 12 b refl h) refl

-- what follows ends the bytes that pass a test
abbrev Stops : (ℕ → Bool) → List ℕ → Type 0
Stops p [] = Unit {0}
Stops p (b ∷ bytes) = p b ≡ false

-- what follows is no part of a name or a symbol
abbrev pub IsStop : List ℕ → Type 0
IsStop rest = Stops is_symbol_byte rest

narrower : (p : ℕ → Bool) → ((b : ℕ) → p b ≡ true → is_symbol_byte b ≡ true) → (rest : List ℕ) → IsStop rest → Stops p rest
narrower p wider [] h = tt
narrower p wider (b ∷ rest) h = go (p b) refl
  where
    go : (x : Bool) → p b ≡ x → p b ≡ false
    go true e = absurd (clash (is_symbol_byte b) (wider b e) h)
    go false e = e

front_len : (p : ℕ → Bool) (xs rest : List ℕ) → list_all p xs ≡ true → Stops p rest → prefix_len p (xs ++ rest) ≡ length xs
front_len p [] [] h k = refl
front_len p [] (b ∷ rest) h k = rw k refl
front_len p (x ∷ xs) rest h k =
    let e = front_len p xs rest (and_right (p x) (list_all p xs) h) k in
    let one : prefix_len p (x ∷ (xs ++ rest)) ≡ 1 + prefix_len p (xs ++ rest) = rw (and_left (p x) (list_all p xs) h) refl in
    omega (arith, e, one)

pub front : (p : ℕ → Bool) (xs rest : List ℕ) → list_all p xs ≡ true → Stops p rest → take_while p (xs ++ rest) ≡ xs
front p xs rest h k = ap (λ n. take n (xs ++ rest)) (front_len p xs rest h k) ∙ take-append_seam xs rest

skip_none : (b : ℕ) (bytes : List ℕ) → is_symbol_byte b ≡ true → skip (b ∷ bytes) ≡ b ∷ bytes
skip_none b bytes h = let e = not_blank b h in rw e refl

-- Tokens read from one place to another.
abbrev pub Reads : Spot → List Token → Spot → Type 0
Reads p [] q = p ≡ q
Reads p (t ∷ ts) q = (token_at p ≡ t) × Reads (behind p) ts q

abbrev pub at : Bool → List ℕ → Spot
at a text = record { attribute = a; text = text }

Reads-append : (p q r : Spot) (ts us : List Token) → Reads p ts q → Reads q us r → Reads p (ts ++ us) r
Reads-append p q r [] us h k = subst (λ p. Reads p us r) (sym h) k
Reads-append p q r (t ∷ ts) us h k = (h.0, Reads-append (behind p) q r ts us h.1 k)

Reads-from : (p p' q : Spot) (ts : List Token) → p' ≡ p → Reads p ts q → Reads p' ts q
Reads-from p p' q ts e h = subst (λ p. Reads p ts q) (sym e) h

first_of : (p q : Spot) (ts : List Token) → Reads p ts q → first (suc (length ts)) p ≡ ts ++ (token_at q ∷ [])
first_of p q [] h = ap (λ p. token_at p ∷ []) h
first_of p q (t ∷ ts) h = (λ j. h.0 j ∷ first (suc (length ts)) (behind p)) ∙ ap (λ us. t ∷ us) (first_of (behind p) q ts h.1)

-- a token that is what stands at the place, and not a colon
one_token : (a : Bool) (bytes rest : List ℕ) (t : Token) → token_of a (bytes ++ rest) ≡ t → skip (bytes ++ rest) ≡ bytes ++ rest → width t ≡ length bytes → is_colon t ≡ false
    → Reads (at a (bytes ++ rest)) (t ∷ []) (at false rest)
one_token a bytes rest t is whole wide plain =
    let here : token_at (at a (bytes ++ rest)) ≡ t = ap (token_of a) whole ∙ is in
    (here, (λ j. at (is_colon (here j)) (drop (width (here j)) (whole j))) ∙ (λ j. at (plain j) (drop (wide j) (bytes ++ rest))) ∙ ap (at false) (drop-append_seam bytes rest))

name_reads : (name rest : List ℕ) → IsName name → IsStop rest → Reads (at false (name ++ rest)) (Name name ∷ []) (at false rest)
name_reads [] rest h k = absurd h
name_reads (b ∷ bytes) rest h k =
    let whole : list_all is_name_byte (b ∷ bytes) ≡ true = both (is_name_byte b) (list_all is_name_byte bytes) (letter_name b h.0) h.1 in
    let test : token_of false (b ∷ (bytes ++ rest)) ≡ Name (take_while is_name_byte ((b ∷ bytes) ++ rest)) = rw h.0 refl in
    one_token false (b ∷ bytes) rest (Name (b ∷ bytes)) (test ∙ ap Name (front is_name_byte (b ∷ bytes) rest whole (narrower is_name_byte name_symbol rest k)))
    (skip_none b (bytes ++ rest) (name_symbol b (letter_name b h.0))) refl refl

symbol_reads : (name rest : List ℕ) → IsSymbol name → IsStop rest → Reads (at true (name ++ rest)) (Symbol name ∷ []) (at false rest)
symbol_reads [] rest h k = absurd h
symbol_reads (b ∷ bytes) rest h k =
    let whole : list_all is_symbol_byte (b ∷ bytes) ≡ true = both (is_symbol_byte b) (list_all is_symbol_byte bytes) (start_symbol b h.0) h.1 in
    let test : token_of true (b ∷ (bytes ++ rest)) ≡ Symbol (take_while is_symbol_byte ((b ∷ bytes) ++ rest)) = rw h.0 refl in
    one_token true (b ∷ bytes) rest (Symbol (b ∷ bytes)) (test ∙ ap Symbol (front is_symbol_byte (b ∷ bytes) rest whole k))
    (skip_none b (bytes ++ rest) (start_symbol b h.0)) refl refl

-- digits
digit_of_value : (b : ℕ) → digit_value b < 10 → is_ascii_digit b ≡ true
digit_of_value b h = let r = digit_from_value b h in grind (arith, r)

digit_starts_none : (b : ℕ) → digit_value b < 10 → is_symbol_start b ≡ false
digit_starts_none b h = let r = digit_from_value b h in grind (arith, r)

digits_all : (digits : List ℕ) → AllDigits 10 digits → list_all is_ascii_digit digits ≡ true
digits_all [] h = refl
digits_all (d ∷ digits) h = both (is_ascii_digit d) (list_all is_ascii_digit digits) (digit_of_value d h.0) (digits_all digits h.1)

no_minus : (d : ℕ) → digit_value d < 10 → (d == 45) ≡ false
no_minus d h = let r = digit_from_value d h in grind (arith, r)

unsigned_reads : (digits rest : List ℕ) → 0 < length digits → AllDigits 10 digits → IsStop rest → Reads (at true (digits ++ rest)) (Number digits ∷ []) (at false rest)
unsigned_reads [] rest some all k = absurd (omega arith)
unsigned_reads (d ∷ digits) rest some all k =
    let none = digit_starts_none d all.0 in
    let yes = digit_of_value d all.0 in
    let test : token_of true (d ∷ (digits ++ rest)) ≡ Number (take_while is_ascii_digit ((d ∷ digits) ++ rest)) = rw (none, yes) refl in
    one_token true (d ∷ digits) rest (Number (d ∷ digits)) (test ∙ ap Number (front is_ascii_digit (d ∷ digits) rest (digits_all (d ∷ digits) all) (narrower is_ascii_digit digit_symbol rest k)))
    (skip_none d (digits ++ rest) (digit_symbol d yes)) refl refl

negative_reads : (digits rest : List ℕ) → 0 < length digits → AllDigits 10 digits → IsStop rest → Reads (at true ((45 ∷ digits) ++ rest)) (Number (45 ∷ digits) ∷ []) (at false rest)
negative_reads [] rest some all k = absurd (omega arith)
negative_reads (d ∷ digits) rest some all k =
    let yes = digit_of_value d all.0 in
    let test : token_of true (45 ∷ (d ∷ (digits ++ rest))) ≡ Number (45 ∷ take_while is_ascii_digit ((d ∷ digits) ++ rest)) = rw yes refl in
    one_token true (45 ∷ (d ∷ digits)) rest (Number (45 ∷ (d ∷ digits)))
    (test ∙ ap (λ x. Number (45 ∷ x)) (front is_ascii_digit (d ∷ digits) rest (digits_all (d ∷ digits) all) (narrower is_ascii_digit digit_symbol rest k))) refl refl refl

-- the value of printed digits
unsigned_value : (digits : List ℕ) (n : ℕ) → 0 < length digits → AllDigits 10 digits → digits_value 10 digits ≡ n → value_of digits ≡ pos n
unsigned_value [] n some all e = absurd (omega arith)
unsigned_value (d ∷ digits) n some all e = let k = no_minus d all.0 in rw k (ap pos e)

pub number_reads : (z : ℤ) (rest : List ℕ) → IsAttribute (attribute.Number z) → IsStop rest → Reads (at true (signed_decimal z ++ rest)) (Number (signed_decimal z) ∷ []) (at false rest)
number_reads (pos n) rest h k = let small : n < 2 ^ 64 = omega (arith, ints, h.1) in let d = decimal_is_IsNumeral n small in unsigned_reads (decimal n) rest (d.0).0 (d.0).1 k
number_reads (negsuc n) rest h k = let small : suc n < 2 ^ 64 = omega (arith, ints, h.0) in let d = decimal_is_IsNumeral (suc n) small in negative_reads (decimal (suc n)) rest (d.0).0 (d.0).1 k

number_value : (z : ℤ) → IsAttribute (attribute.Number z) → value_of (signed_decimal z) ≡ z
number_value (pos n) h = let small : n < 2 ^ 64 = omega (arith, ints, h.1) in let d = decimal_is_IsNumeral n small in unsigned_value (decimal n) n (d.0).0 (d.0).1 d.1
number_value (negsuc n) h = let small : suc n < 2 ^ 64 = omega (arith, ints, h.0) in let d = decimal_is_IsNumeral (suc n) small in ap (λ n. neg_ℤ (pos n)) d.1

-- the tokens of a tree
abbrev pub attribute_tokens : Attribute → List Token
attribute_tokens attribute.Absent = []
attribute_tokens (attribute.Number z) = Colon ∷ Number (signed_decimal z) ∷ []
attribute_tokens (attribute.Symbol name) = Colon ∷ Symbol name ∷ []

abbrev pub tree_tokens : Grammar → PlainTree → List Token
tree_tokens g (Node0 op a) = Name (operator_name g op) ∷ attribute_tokens a
tree_tokens g (Node1 op a t) = Name (operator_name g op) ∷ (attribute_tokens a ++ (Open ∷ (tree_tokens g t ++ (Close ∷ []))))
tree_tokens g (Node2 op a t u) = Name (operator_name g op) ∷ (attribute_tokens a ++ (Open ∷ (tree_tokens g t ++ (Comma ∷ (tree_tokens g u ++ (Close ∷ []))))))

attribute_reads : (a : Attribute) (rest : List ℕ) → IsAttribute a → IsStop rest → Reads (at false (attribute_text a ++ rest)) (attribute_tokens a) (at false rest)
attribute_reads attribute.Absent rest h k = refl
attribute_reads (attribute.Number z) rest h k = (refl, number_reads z rest h k)
attribute_reads (attribute.Symbol name) rest h k = (refl, symbol_reads name rest h k)

attribute_stops : (a : Attribute) (rest : List ℕ) → IsStop rest → IsStop (attribute_text a ++ rest)
attribute_stops attribute.Absent rest k = k
attribute_stops (attribute.Number z) rest k = refl
attribute_stops (attribute.Symbol name) rest k = refl

no_text : (n a rest : List ℕ) → (n ++ a) ++ rest ≡ n ++ (a ++ rest)
no_text n a rest = append_assoc n a rest

one_text : (n a t rest : List ℕ) → (n ++ (a ++ (codes "(" ++ (t ++ codes ")")))) ++ rest ≡ n ++ (a ++ (40 ∷ (t ++ (41 ∷ rest))))
one_text n a t rest =
    append_assoc n (a ++ (codes "(" ++ (t ++ codes ")"))) rest
    ∙ ap (λ x. n ++ x) (append_assoc a (codes "(" ++ (t ++ codes ")")) rest ∙ ap (λ x. a ++ (40 ∷ x)) (append_assoc t (codes ")") rest))

two_text : (n a t u rest : List ℕ) → (n ++ (a ++ (codes "(" ++ (t ++ (codes "," ++ (u ++ codes ")")))))) ++ rest ≡ n ++ (a ++ (40 ∷ (t ++ (44 ∷ (u ++ (41 ∷ rest))))))
two_text n a t u rest =
    append_assoc n (a ++ (codes "(" ++ (t ++ (codes "," ++ (u ++ codes ")"))))) rest
    ∙ ap (λ x. n ++ x) (append_assoc a (codes "(" ++ (t ++ (codes "," ++ (u ++ codes ")")))) rest
    ∙ ap (λ x. a ++ (40 ∷ x)) (append_assoc t (codes "," ++ (u ++ codes ")")) rest ∙ ap (λ x. t ++ (44 ∷ x)) (append_assoc u (codes ")") rest)))

module _ (g : Grammar) (names : HasNames g) where
  named : (op kids : ℕ) → IsOperatorOf g op kids → IsName (operator_name g op)
  named op kids h = subst IsName (sym (ap name_of h.1)) (names.named op h.0 h.1)

  head_reads : (op kids : ℕ) (a : Attribute) (rest : List ℕ) → IsOperatorOf g op kids → IsAttribute a → IsStop rest
      → Reads (at false (operator_name g op ++ (attribute_text a ++ rest))) (Name (operator_name g op) ∷ attribute_tokens a) (at false rest)
  head_reads op kids a rest h k stop =
      Reads-append (at false (operator_name g op ++ (attribute_text a ++ rest))) (at false (attribute_text a ++ rest)) (at false rest) (Name (operator_name g op) ∷ []) (attribute_tokens a)
      (name_reads (operator_name g op) (attribute_text a ++ rest) (named op kids h) (attribute_stops a rest stop)) (attribute_reads a rest k stop)

  pub tree_reads : (t : PlainTree) (rest : List ℕ) → IsOver g t → IsStop rest → Reads (at false (tree_text g t ++ rest)) (tree_tokens g t) (at false rest)
  tree_reads (Node0 op a) rest (is, valid) stop =
      Reads-from (at false (operator_name g op ++ (attribute_text a ++ rest))) (at false (tree_text g (Node0 op a) ++ rest)) (at false rest) (tree_tokens g (Node0 op a))
      (ap (at false) (no_text (operator_name g op) (attribute_text a) rest)) (head_reads op 0 a rest is valid stop)
  tree_reads (Node1 op a t) rest (is, valid, over) stop =
      let kid = tree_reads t (41 ∷ rest) over refl in
      let behind_it : Reads (at false (40 ∷ (tree_text g t ++ (41 ∷ rest)))) (Open ∷ (tree_tokens g t ++ (Close ∷ []))) (at false rest) =
      (refl, Reads-append (at false (tree_text g t ++ (41 ∷ rest))) (at false (41 ∷ rest)) (at false rest) (tree_tokens g t) (Close ∷ []) kid (refl, refl)) in
      Reads-from (at false (operator_name g op ++ (attribute_text a ++ (40 ∷ (tree_text g t ++ (41 ∷ rest)))))) (at false (tree_text g (Node1 op a t) ++ rest)) (at false rest) (tree_tokens g (Node1 op a t))
      (ap (at false) (one_text (operator_name g op) (attribute_text a) (tree_text g t) rest))
      (Reads-append (at false (operator_name g op ++ (attribute_text a ++ (40 ∷ (tree_text g t ++ (41 ∷ rest)))))) (at false (40 ∷ (tree_text g t ++ (41 ∷ rest)))) (at false rest)
      (Name (operator_name g op) ∷ attribute_tokens a) (Open ∷ (tree_tokens g t ++ (Close ∷ [])))
      (head_reads op 1 a (40 ∷ (tree_text g t ++ (41 ∷ rest))) is valid refl) behind_it)
  tree_reads (Node2 op a t u) rest (is, valid, over, other) stop =
      let second_text = tree_text g u ++ (41 ∷ rest) in
      let inner = tree_text g t ++ (44 ∷ second_text) in
      let kid = tree_reads t (44 ∷ second_text) over refl in
      let second = tree_reads u (41 ∷ rest) other refl in
      let behind_first : Reads (at false (44 ∷ second_text)) (Comma ∷ (tree_tokens g u ++ (Close ∷ []))) (at false rest) =
      (refl, Reads-append (at false second_text) (at false (41 ∷ rest)) (at false rest) (tree_tokens g u) (Close ∷ []) second (refl, refl)) in
      let behind_it : Reads (at false (40 ∷ inner)) (Open ∷ (tree_tokens g t ++ (Comma ∷ (tree_tokens g u ++ (Close ∷ []))))) (at false rest) =
      (refl, Reads-append (at false inner) (at false (44 ∷ second_text)) (at false rest) (tree_tokens g t) (Comma ∷ (tree_tokens g u ++ (Close ∷ []))) kid behind_first) in
      Reads-from (at false (operator_name g op ++ (attribute_text a ++ (40 ∷ inner)))) (at false (tree_text g (Node2 op a t u) ++ rest)) (at false rest) (tree_tokens g (Node2 op a t u))
      (ap (at false) (two_text (operator_name g op) (attribute_text a) (tree_text g t) (tree_text g u) rest))
      (Reads-append (at false (operator_name g op ++ (attribute_text a ++ (40 ∷ inner)))) (at false (40 ∷ inner)) (at false rest)
      (Name (operator_name g op) ∷ attribute_tokens a) (Open ∷ (tree_tokens g t ++ (Comma ∷ (tree_tokens g u ++ (Close ∷ [])))))
      (head_reads op 2 a (40 ∷ inner) is valid refl) behind_it)

  -- the names lead back to the operators
  prefix_at : (p : Operator → Bool) (xs : List Operator) (k : ℕ) (x : Operator) → slice_get xs k ≡ Some x → p x ≡ false → ((j : ℕ) (y : Operator) → j < k → slice_get xs j ≡ Some y → p y ≡ true) → prefix_len p xs ≡ k
  prefix_at p [] k x get stops passes = cc
  prefix_at p (y ∷ xs) zero x get stops passes = let q : y ≡ x = cc in let e : p y ≡ false = ap p q ∙ stops in rw e refl
  prefix_at p (y ∷ xs) (suc k) x get stops passes =
      let e : p y ≡ true = passes 0 y (omega arith) refl in
      let ih = prefix_at p xs k x get stops (λ j z lt at. passes (suc j) z (omega arith) at) in
      let one : prefix_len p (y ∷ xs) ≡ 1 + prefix_len p xs = rw e refl in
      omega (arith, ih, one)

  number_is : (op kids : ℕ) → IsOperatorOf g op kids → operator_number g (operator_name g op) ≡ op
  number_is op kids (operator, get, takes) =
      let name = operator_name g op in
      let same : operator.name ≡ name = sym (ap name_of get) in
      prefix_at (λ (o : Operator). not (bytes_eq o.name name)) g.operators op operator get (ap not ((bytes_eq-Decides operator.name name).1 same))
      (λ j other lt at. unlike (bytes_eq other.name name) (λ e. let q = names.differ j op other operator at get ((bytes_eq-Decides other.name name).0 e ∙ sym same) in omega (arith, q)))
    where
      unlike : (b : Bool) → (b ≡ true → ⊥) → not b ≡ true
      unlike true h = absurd (h refl)
      unlike false h = refl

  attribute_spelled : (a : Attribute) → IsAttribute a → SpellsAttribute (attribute_tokens a) a
  attribute_spelled attribute.Absent h = no_attribute
  attribute_spelled (attribute.Number z) h = subst (λ x. SpellsAttribute (Colon ∷ Number (signed_decimal z) ∷ []) (attribute.Number x)) (number_value z h) (a_number (signed_decimal z))
  attribute_spelled (attribute.Symbol name) h = a_symbol name

  pub tree_spelled : (t : PlainTree) → IsOver g t → SpellsTree g (tree_tokens g t) t
  tree_spelled (Node0 op a) (is, valid) =
      subst (λ k. SpellsTree g (tree_tokens g (Node0 op a)) (Node0 k a)) (number_is op 0 is) (no_kids (operator_name g op) a (attribute_tokens a) (attribute_spelled a valid))
  tree_spelled (Node1 op a t) (is, valid, over) =
      subst (λ k. SpellsTree g (tree_tokens g (Node1 op a t)) (Node1 k a t)) (number_is op 1 is)
      (one_kid (operator_name g op) a (attribute_tokens a) (tree_tokens g t) t (attribute_spelled a valid) (tree_spelled t over))
  tree_spelled (Node2 op a t u) (is, valid, over, other) =
      subst (λ k. SpellsTree g (tree_tokens g (Node2 op a t u)) (Node2 k a t u)) (number_is op 2 is)
      (two_kids (operator_name g op) a (attribute_tokens a) (tree_tokens g t) (tree_tokens g u) t u (attribute_spelled a valid) (tree_spelled t over) (tree_spelled u other))

  append_nil : (xs : List ℕ) → xs ++ [] ≡ xs
  append_nil [] = refl
  append_nil (x ∷ xs) = ap (λ ys. x ∷ ys) (append_nil xs)

  pub tree_cut : (t : PlainTree) → IsOver g t → IsCutInto (tree_text g t) (tree_tokens g t)
  tree_cut t over =
      first_of (start (tree_text g t)) (at false []) (tree_tokens g t)
      (subst (λ x. Reads (at false x) (tree_tokens g t) (at false [])) (append_nil (tree_text g t)) (tree_reads t [] over tt))

-- no line feed stands in the text of a tree
symbol_inside : (b : ℕ) → is_symbol_byte b ≡ true → not (b == 10) ≡ true
symbol_inside b h = ap not (not_is 10 b refl h)

digit_inside : (b : ℕ) → is_ascii_digit b ≡ true → not (b == 10) ≡ true
digit_inside b h = symbol_inside b (digit_symbol b h)

abbrev IsInside : List ℕ → Type 0
IsInside bytes = list_all (λ b. not (b == 10)) bytes ≡ true

inside-append : (xs ys : List ℕ) → IsInside xs → IsInside ys → IsInside (xs ++ ys)
inside-append xs ys h k = list_all-append (λ b. not (b == 10)) xs ys ∙ both (list_all (λ b. not (b == 10)) xs) (list_all (λ b. not (b == 10)) ys) h k

name_inside : (name : List ℕ) → IsName name → IsInside name
name_inside [] h = absurd h
name_inside (b ∷ bytes) h =
    both (not (b == 10)) (list_all (λ b. not (b == 10)) bytes) (symbol_inside b (start_symbol b (letter_starts b h.0)))
    (list_all-widened is_name_byte (λ b. not (b == 10)) (λ b k. symbol_inside b (name_symbol b k)) bytes h.1)

symbol_name_inside : (name : List ℕ) → IsSymbol name → IsInside name
symbol_name_inside [] h = absurd h
symbol_name_inside (b ∷ bytes) h =
    both (not (b == 10)) (list_all (λ b. not (b == 10)) bytes) (symbol_inside b (start_symbol b h.0)) (list_all-widened is_symbol_byte (λ b. not (b == 10)) symbol_inside bytes h.1)

decimal_inside : (n : ℕ) → n < 2 ^ 64 → IsInside (decimal n)
decimal_inside n small = let d = decimal_is_IsNumeral n small in list_all-widened is_ascii_digit (λ b. not (b == 10)) digit_inside (decimal n) (digits_all (decimal n) (d.0).1)

attribute_inside : (a : Attribute) → IsAttribute a → IsInside (attribute_text a)
attribute_inside attribute.Absent h = refl
attribute_inside (attribute.Number (pos n)) h = let small : n < 2 ^ 64 = omega (arith, ints, h.1) in decimal_inside n small
attribute_inside (attribute.Number (negsuc n)) h = let small : suc n < 2 ^ 64 = omega (arith, ints, h.0) in decimal_inside (suc n) small
attribute_inside (attribute.Symbol name) h = symbol_name_inside name h

module _ (g : Grammar) (names : HasNames g) where
  operator_inside : (op kids : ℕ) → IsOperatorOf g op kids → IsInside (operator_name g op)
  operator_inside op kids h = name_inside (operator_name g op) (named g names op kids h)

  pub tree_inside : (t : PlainTree) → IsOver g t → IsInside (tree_text g t)
  tree_inside (Node0 op a) (is, valid) = inside-append (operator_name g op) (attribute_text a) (operator_inside op 0 is) (attribute_inside a valid)
  tree_inside (Node1 op a t) (is, valid, over) =
      inside-append (operator_name g op) (attribute_text a ++ (codes "(" ++ (tree_text g t ++ codes ")"))) (operator_inside op 1 is)
      (inside-append (attribute_text a) (codes "(" ++ (tree_text g t ++ codes ")")) (attribute_inside a valid) (inside-append (tree_text g t) (codes ")") (tree_inside t over) refl))
  tree_inside (Node2 op a t u) (is, valid, over, other) =
      inside-append (operator_name g op) (attribute_text a ++ (codes "(" ++ (tree_text g t ++ (codes "," ++ (tree_text g u ++ codes ")"))))) (operator_inside op 2 is)
      (inside-append (attribute_text a) (codes "(" ++ (tree_text g t ++ (codes "," ++ (tree_text g u ++ codes ")")))) (attribute_inside a valid)
      (inside-append (tree_text g t) (codes "," ++ (tree_text g u ++ codes ")")) (tree_inside t over) (inside-append (tree_text g u) (codes ")") (tree_inside u other) refl)))
