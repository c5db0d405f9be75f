-- Numbers of one or two digits.
use Rattle.std.proofs.Common.{◌≡◌, ℕ, ◌/◌, ◌%◌, ◌<◌, ◌≤◌, List, [], ◌∷◌, ◌++◌, ap, sym, ◌∙◌, append_assoc, arith, ◌+◌}
use Rattle.std.specs.Fmt.{decimal}
use Rattle.std.proofs.lemmas.Fmt.{decimal_digit, decimal_step}

pub one_digit : (old new : List ℕ) (n digit : ℕ) → n < 10 → digit ≡ 48 + n → new ≡ old ++ digit ∷ [] → new ≡ old ++ decimal n
one_digit old new n digit h d e = e ∙ ap (λ x. old ++ x) (ap (λ x. x ∷ []) d ∙ sym (decimal_digit n h))

pub two_digits : (old one new : List ℕ) (n tens ones : ℕ) → 10 ≤ n → n < 100 → tens ≡ 48 + n / 10 → ones ≡ 48 + n % 10 → one ≡ old ++ tens ∷ [] → new ≡ one ++ ones ∷ [] → new ≡ old ++ decimal n
two_digits old one new n tens ones low high t o e f =
    let all : new ≡ old ++ (tens ∷ ones ∷ []) = f ∙ ap (λ x. x ++ ones ∷ []) e ∙ append_assoc old (tens ∷ []) (ones ∷ []) in
    let digits : tens ∷ ones ∷ [] ≡ decimal n = (λ j. t j ∷ o j ∷ []) ∙ ap (λ x. x ++ (48 + n % 10) ∷ []) (sym (decimal_digit (n / 10) (omega arith))) ∙ sym (decimal_step n low (omega arith)) in
    all ∙ ap (λ x. old ++ x) digits
