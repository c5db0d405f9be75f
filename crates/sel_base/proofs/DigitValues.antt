-- Numbers digit by digit.
use Rattle.std.proofs.Common.{◌≡◌, ℕ, suc, ◌+◌, ◌*◌, ◌≤◌, ◌<◌, List, [], ◌∷◌, length, arith, ◌-◌, drop, get_or, drop-cons, subst}
use Rattle.std.specs.Str.Parse.{digits_value, digits_value_after, AllDigits}
use Rattle.std.proofs.lemmas.Str.{digit_value_digit}
use Rattle.std.proofs.lemmas.Str.Parse.{digit_from_value}
use Rattle.std.specs.Char.{digit_value}

-- further digits make no number smaller
pub value_grows : (n : ℕ) (digits : List ℕ) → n ≤ digits_value_after 10 n digits
value_grows n [] = omega arith
value_grows n (d ∷ digits) = omega (arith, value_grows (n * 10 + digit_value d) digits)

at_front : (limit n d : ℕ) (v : ℕ) (more : List ℕ) → digits_value_after 10 n (d ∷ more) ≡ v → AllDigits 10 (d ∷ more) → limit < n * 10 + (d - 48) → limit < v
at_front limit n d v more e all k =
    let low : digit_value d + 48 ≡ d = digit_value_digit d (digit_from_value d all.0) in
    omega (arith, value_grows (n * 10 + digit_value d) more)

pub value_from : (limit n i : ℕ) (digits : List ℕ) → i < length digits → digits_value_after 10 n (drop i digits) ≡ digits_value 10 digits
    → AllDigits 10 (drop i digits) → limit < n * 10 + (get_or digits i 0 - 48) → limit < digits_value 10 digits
value_from limit n i digits h e all k =
    let c : drop i digits ≡ get_or digits i 0 ∷ drop (suc i) digits = drop-cons digits i 0 h in
    at_front limit n (get_or digits i 0) (digits_value 10 digits) (drop (suc i) digits) (subst (λ ds. digits_value_after 10 n ds ≡ digits_value 10 digits) c e) (subst (AllDigits 10) c all) k
