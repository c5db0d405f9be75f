-- Numbers in shortest decimals, read and written.
use Rattle.std.proofs.Common.{◌≡◌, ℕ, zero, suc, ◌+◌, ◌≤◌, ◌<◌, ◌^◌, ◌==◌, Bool, true, false, List, [], ◌∷◌, length, get_or, ◌⊎◌, inl, inr, refl, ap, sym, ◌∙◌, subst, arith, decimal, slice_get, Option, Some, None, MatchOption}
use Rattle.std.specs.List.{prefix_len}
use Rattle.std.specs.Char.{is_ascii_digit, digit_value}
use Rattle.std.specs.Int.{IsInRange}
use Rattle.std.specs.Str.Parse.{digits_value, AllDigits}
use Rattle.std.proofs.lemmas.Fmt.{decimal_digit, decimal_nonempty, first_decimal, digits_decimal, digits_value-decimal, decimal-digits_value}
use Rattle.std.proofs.lemmas.List.Elements.{All-cons, All-nil}
use Rattle.std.proofs.lemmas.Str.{digit_value_digit}
use Rattle.std.proofs.lemmas.Str.Parse.{IsNumeralModel, digit_from_value}
use Rattle.sel_table.specs.LineReading.{IsShortest, Lacks}

pub numerals : IsNumeralModel (AllDigits 10) (digits_value 10)
numerals = record { to = λ ds h. h; from = λ ds h. h; same = λ ds h. refl }

digit_small : (b : ℕ) → is_ascii_digit b ≡ true → digit_value b < 10
digit_small b h = let r : IsInRange 48 57 b = grind arith in omega (arith, digit_value_digit b r, r)

-- where all bytes at the front are digits, all are
pub digits_all : (bytes : List ℕ) → prefix_len is_ascii_digit bytes ≡ length bytes → AllDigits 10 bytes
digits_all [] e = tt
digits_all (b ∷ bytes) e = go (is_ascii_digit b) refl (digits_all bytes)
  where
    one_more : is_ascii_digit b ≡ true → prefix_len is_ascii_digit (b ∷ bytes) ≡ 1 + prefix_len is_ascii_digit bytes
    one_more h = rw h refl

    nothing : is_ascii_digit b ≡ false → prefix_len is_ascii_digit (b ∷ bytes) ≡ 0
    nothing h = rw h refl

    go : (x : Bool) → is_ascii_digit b ≡ x → (prefix_len is_ascii_digit bytes ≡ length bytes → AllDigits 10 bytes) → AllDigits 10 (b ∷ bytes)
    go true h more = (digit_small b h, more (omega (arith, one_more h, e)))
    go false h more = absurd (omega (arith, nothing h, e))

pub all_digits : (bytes : List ℕ) → AllDigits 10 bytes → prefix_len is_ascii_digit bytes ≡ length bytes
all_digits [] h = refl
all_digits (b ∷ bytes) h =
    let r : IsInRange 48 57 b = digit_from_value b h.0 in
    let d : is_ascii_digit b ≡ true = grind arith in
    let more : prefix_len is_ascii_digit (b ∷ bytes) ≡ 1 + prefix_len is_ascii_digit bytes = rw d refl in
    omega (arith, more, all_digits bytes h.1)

naught_alone : (bytes : List ℕ) → bytes ≡ 48 ∷ [] → length bytes ≡ 1
naught_alone bytes e = ap length e

pub shortest : (n : ℕ) → n < 2 ^ 64 → IsShortest (decimal n)
shortest n small = record { digits = digits_decimal numerals n small; some = decimal_nonempty n small; lead = lead n small }
  where
    lead : (n : ℕ) → n < 2 ^ 64 → get_or (decimal n) 0 0 ≡ 48 → length (decimal n) ≡ 1
    lead zero small e = naught_alone (decimal 0) (decimal_digit 0 (omega arith))
    lead (suc n) small e = absurd (omega (arith, first_decimal (suc n) (omega arith) small, e))

pub value_spells : (bytes : List ℕ) (n : ℕ) → IsShortest bytes → n ≡ digits_value 10 bytes → n < 2 ^ 64 → bytes ≡ decimal n
value_spells bytes n h e small = sym (decimal-digits_value numerals bytes h.digits h.some h.lead (omega (arith, e, small))) ∙ ap decimal (sym e)

pub value_is : (bytes : List ℕ) (n : ℕ) → n < 2 ^ 64 → bytes ≡ decimal n → digits_value 10 bytes ≡ n
value_is bytes n small e = ap (digits_value 10) e ∙ digits_value-decimal numerals n small

-- a byte that is no digit
abbrev pub IsNoDigit : ℕ → Type 0
IsNoDigit c = (c < 48) ⊎ (57 < c)

-- a decimal has only digits
lacks : (c : ℕ) → IsNoDigit c → (bytes : List ℕ) → AllDigits 10 bytes → Lacks c bytes
lacks c far [] h = All-nil (λ b. (b == c) ≡ false)
lacks c far (b ∷ bytes) h = All-cons (λ b. (b == c) ≡ false) b bytes (let r = digit_from_value b h.0 in other b c far r.0 r.1) (lacks c far bytes h.1)
  where
    other : (b c : ℕ) → IsNoDigit c → 48 ≤ b → b ≤ 57 → (b == c) ≡ false
    other b c (inl low) from to = grind arith
    other b c (inr high) from to = grind arith

pub decimal_lacks : (c n : ℕ) → IsNoDigit c → n < 2 ^ 64 → Lacks c (decimal n)
decimal_lacks c n far small = lacks c far (decimal n) (digits_decimal numerals n small)

pub shortest_of : (bytes : List ℕ) (d : ℕ) → Some d ≡ slice_get bytes 0 → prefix_len is_ascii_digit bytes ≡ length bytes → (d ≡ 48 → length bytes ≡ 1) → IsShortest bytes
shortest_of [] d e all lead = cc
shortest_of (b ∷ bytes) d e all lead = let q : d ≡ b = cc in record { digits = digits_all (b ∷ bytes) all; some = omega arith; lead = λ h. lead (q ∙ h) }

pub of_shortest : (bytes : List ℕ) → IsShortest bytes → prefix_len is_ascii_digit bytes ≡ length bytes
of_shortest bytes h = all_digits bytes h.digits

pub lead_of : (bytes : List ℕ) (d : ℕ) → Some d ≡ slice_get bytes 0 → IsShortest bytes → d ≡ 48 → length bytes ≡ 1
lead_of [] d e h z = cc
lead_of (b ∷ bytes) d e h z = let q : d ≡ b = cc in h.lead (sym q ∙ z)

pub number_read : (bytes : List ℕ) (limit : ℕ) → limit < 2 ^ 64 → IsShortest bytes → (o : Option ℕ) → MatchOption o (limit < digits_value 10 bytes) (λ n. (n ≡ digits_value 10 bytes) × (n ≤ limit))
    → MatchOption o ((n : ℕ) → n ≤ limit → bytes ≡ decimal n → ⊥) (λ n. (n ≤ limit) × (bytes ≡ decimal n))
number_read bytes limit small h None above = λ n few e. absurd (omega (arith, above, few, value_is bytes n (omega arith) e))
number_read bytes limit small h (Some n) (is, few) = (few, value_spells bytes n h is (omega arith))

pub number_none : (bytes : List ℕ) (limit : ℕ) → limit < 2 ^ 64 → (IsShortest bytes → ⊥) → (n : ℕ) → n ≤ limit → bytes ≡ decimal n → ⊥
number_none bytes limit small never n few e = never (subst IsShortest (sym e) (shortest n (omega arith)))
