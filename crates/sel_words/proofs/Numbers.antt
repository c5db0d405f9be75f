-- What a text of digits gives where it is read as a number.
use Rattle.std.proofs.Common.{◌≡◌, ℕ, ◌<◌, ◌^◌, Bool, true, false, ◌&&◌, List, [], ◌∷◌, length, None, Result, Err, refl, sym, ap, ◌∙◌, arith, leb-true}
use Rattle.std.proofs.Common.{true≢false}
use Rattle.std.specs.Prelude.{nat_le}
use Rattle.std.specs.List.{list_all}
use Rattle.std.specs.Char.{is_ascii_digit}
use Rattle.std.specs.Str.{all_ascii_digits}
use Rattle.std.specs.Str.Parse.{digits_value, ParsesUnsigned}
use Rattle.std.proofs.lemmas.Str.Parse.{parse_digits, numerals_by_value, tells_all_ascii_digits}
use Rattle.std.proofs.lemmas.Bool.{lt-leb}
use Rattle.sel_words.specs.declared.settings.Bounds.{Bounds}
use Rattle.sel_words.specs.Settings.{is_number, is_within, number_within, most_digits}

digits_test : (text : List ℕ) → all_ascii_digits text ≡ list_all is_ascii_digit text
digits_test [] = refl
digits_test (b ∷ text) = ap (λ t. is_ascii_digit b && t) (digits_test text)

and_left : (a b : Bool) → (a && b) ≡ true → a ≡ true
and_left true b e = refl
and_left false b e = e

and_right : (a b : Bool) → (a && b) ≡ true → b ≡ true
and_right true b e = e
and_right false b e = absurd (true≢false (sym e))

all_digits : (text : List ℕ) → is_number text ≡ true → all_ascii_digits text ≡ true
all_digits text e = digits_test text ∙ and_right (nat_le (length text) most_digits) _ (and_right (nat_le 1 (length text)) _ e)

some_digits : (text : List ℕ) → is_number text ≡ true → 0 < length text
some_digits text e = leb-true 1 (length text) (and_left (nat_le 1 (length text)) _ e)

and_last : (a b : Bool) → b ≡ false → (a && b) ≡ false
and_last true b e = e
and_last false b e = refl

-- digits that aren't read write a number above every bound
pub not_read : {E : Type 0} (bounds : Bounds) (text : List ℕ) (error : E) → is_number text ≡ true → bounds.greatest < 2 ^ 64
    → let read : Result ℕ E = Err error in ParsesUnsigned 64 10 text read → number_within bounds text ≡ None
not_read bounds text error e low h =
    let no : ¬ ((0 < length text) × (digits_value 10 text < 2 ^ 64)) = parse_digits (numerals_by_value _ tells_all_ascii_digits) 64 text (Err error) h (all_digits text e) in
    let small : ¬ (digits_value 10 text < 2 ^ 64) = λ less. no (some_digits text e, less) in
    let above : is_within bounds (digits_value 10 text) ≡ false = and_last (nat_le bounds.least (digits_value 10 text)) _ (lt-leb (digits_value 10 text) bounds.greatest (omega (arith, small, low))) in
    rw (e, above) refl
