-- Numbers without needless zeros are their own print.
use Rattle.std.proofs.Common.{◌≡◌, ℕ, zero, suc, ◌+◌, ◌-◌, ◌*◌, ◌≤◌, ◌<◌, ◌⊎◌, inl, inr, drop, ◌==◌, ◌^◌, nat_lt, nat_le, Bool, true, false, List, [], ◌∷◌, refl, ap, sym, subst, ◌∙◌, arith, length, pos, neg_ℤ, if◌then◌else◌}
use Rattle.std.specs.Prelude.{get_or, bytes_eq, codes}
use Rattle.std.proofs.lemmas.Slice.Eq.{bytes_eq-Decides}
use Rattle.std.specs.Fmt.{decimal, signed_decimal}
use Rattle.std.specs.Str.Parse.{digits_value, digits_value_after, AllDigits}
use Rattle.sel_base.proofs.DigitValues.{value_from}
use Rattle.std.proofs.lemmas.Fmt.{decimal_digit, decimal-digits_value}
use Rattle.std.proofs.lemmas.Str.Parse.{IsNumeralModel, digits_value_short}
use Rattle.sel_forest.specs.LineFaults.{is_too_large}
use Rattle.sel_forest.specs.Reprinting.{is_above_zero, is_in_print}
use Rattle.sel_forest.specs.TreeText.{without_sign, value_of}
use Rattle.sel_forest.proofs.Reading.{not_le, not_lt}

numerals : IsNumeralModel (AllDigits 10) (digits_value 10)
numerals = record { to = λ ds h. h; from = λ ds h. h; same = λ ds h. refl }

above : (d : ℕ) → nat_lt 48 d ≡ true → 48 < d
above d h = grind arith

digits_in_print : (ds : List ℕ) → AllDigits 10 ds → is_above_zero ds ≡ true → digits_value 10 ds < 2 ^ 64 → decimal (digits_value 10 ds) ≡ ds
digits_in_print [] h k small = cc
digits_in_print (d ∷ ds) h k small = decimal-digits_value numerals (d ∷ ds) h (omega arith) (λ e. absurd (omega (arith, e, above d k))) small

minus_in_print : (ds : List ℕ) (v : ℕ) → decimal v ≡ ds → is_above_zero ds ≡ true → signed_decimal (neg_ℤ (pos v)) ≡ 45 ∷ ds
minus_in_print ds zero e k =
    let naught : decimal 0 ≡ 48 ∷ [] = decimal_digit 0 (omega arith) in
    let no : nat_lt 48 48 ≡ true = sym (ap is_above_zero naught) ∙ ap is_above_zero e ∙ k in
    absurd (omega (arith, above 48 no))
minus_in_print ds (suc v) e k = ap (λ ds. 45 ∷ ds) e

pub in_print : (bytes : List ℕ) → AllDigits 10 (without_sign bytes) → is_too_large bytes ≡ false → is_in_print bytes ≡ true → bytes ≡ signed_decimal (value_of bytes)
in_print [] h small k = cc
in_print (b ∷ bytes) h small k = go (b == 45) refl h small k
  where
    go : (x : Bool) → (b == 45) ≡ x → AllDigits 10 (if x then bytes else (b ∷ bytes))
        → (if x then nat_lt (2 ^ 63) (digits_value 10 (if x then bytes else (b ∷ bytes))) else nat_le (2 ^ 63) (digits_value 10 (if x then bytes else (b ∷ bytes)))) ≡ false
        → is_above_zero (if x then bytes else (b ∷ bytes)) ≡ true
        → b ∷ bytes ≡ signed_decimal (if x then neg_ℤ (pos (digits_value 10 (if x then bytes else (b ∷ bytes)))) else pos (digits_value 10 (if x then bytes else (b ∷ bytes))))
    go true e h small k =
        let v = digits_value 10 bytes in
        let minus : b ≡ 45 = grind (arith, e) in
        ap (λ c. c ∷ bytes) minus ∙ sym (minus_in_print bytes v (digits_in_print bytes h k (let l = not_lt (2 ^ 63) v small in omega (arith, l))) k)
    go false e h small k =
        let v = digits_value 10 (b ∷ bytes) in
        sym (digits_in_print (b ∷ bytes) h k (let l = not_le (2 ^ 63) v small in omega (arith, l)))

pub zero_in_print : (bytes : List ℕ) → bytes_eq bytes (codes "0") ≡ true → bytes ≡ signed_decimal (value_of bytes)
zero_in_print bytes h =
    let naught : decimal 0 ≡ codes "0" = decimal_digit 0 (omega arith) in
    let is : bytes ≡ codes "0" = (bytes_eq-Decides bytes (codes "0")).0 h in
    subst (λ bs. bs ≡ signed_decimal (value_of bs)) (sym is) (sym naught)

below_lt : (a b : ℕ) → b ≤ a → nat_lt a b ≡ false
below_lt a b h = grind arith

below_le : (a b : ℕ) → b < a → nat_le a b ≡ false
below_le a b h = grind arith

-- few digits write no number that is too large
pub few_digits : (bytes : List ℕ) → AllDigits 10 (without_sign bytes) → length bytes ≤ 18 → is_too_large bytes ≡ false
few_digits [] h few = refl
few_digits (b ∷ bytes) h few = go (b == 45) refl h
  where
    go : (x : Bool) → (b == 45) ≡ x → AllDigits 10 (if x then bytes else (b ∷ bytes))
        → (if x then nat_lt (2 ^ 63) (digits_value 10 (if x then bytes else (b ∷ bytes))) else nat_le (2 ^ 63) (digits_value 10 (if x then bytes else (b ∷ bytes)))) ≡ false
    go true e h = let small = digits_value_short numerals bytes 18 h (omega (arith, few)) in below_lt (2 ^ 63) (digits_value 10 bytes) (omega (arith, small))
    go false e h = let small = digits_value_short numerals (b ∷ bytes) 18 h few in below_le (2 ^ 63) (digits_value 10 (b ∷ bytes)) (omega (arith, small))

at_most_or_more : (a b : ℕ) → (a ≤ b) ⊎ (b < a)
at_most_or_more a b = grind arith

-- the number that a few digits write is still small behind one digit more
pub few_more : (n i : ℕ) (digits : List ℕ) → AllDigits 10 digits → length digits ≤ 18 → i < length digits → digits_value_after 10 n (drop i digits) ≡ digits_value 10 digits
    → AllDigits 10 (drop i digits) → n * 10 + (get_or digits i 0 - 48) < 10 ^ 18
few_more n i digits all few h e rest =
    let small : digits_value 10 digits < 10 ^ 18 = digits_value_short numerals digits 18 all few in
    elim (at_most_or_more (n * 10 + (get_or digits i 0 - 48)) (digits_value 10 digits)) [
      | inl le ↦ omega (arith, le, small)
      | inr lt ↦ absurd (omega (arith, value_from (digits_value 10 digits) n i digits h e rest lt))
    ]

pub few_value : (digits : List ℕ) → AllDigits 10 digits → length digits ≤ 18 → digits_value 10 digits < 10 ^ 18
few_value digits all few = digits_value_short numerals digits 18 all few
