-- Numbers with a sign.
use Rattle.std.proofs.Common.{◌≡◌, ℕ, zero, suc, ◌≤◌, ◌<◌, ◌^◌, ◌==◌, false, List, ◌∷◌, Option, Some, None, refl, ap, sym, ◌∙◌, subst, arith, decimal, ℤ, pos, negsuc, ◌-ℤ◌, w64, to_z, of_z, true≢false, inl}
use Rattle.std.specs.Fmt.{signed_decimal}
use Rattle.std.proofs.lemmas.Fmt.{decimal_injective}
use Rattle.std.proofs.lemmas.Int.{ints}
use Rattle.std.proofs.lemmas.List.Elements.{All-head}
use Rattle.sel_table.specs.LineReading.{Lacks, IsReadAs, IsAmount, IsNegativeOf}
use Rattle.sel_table.proofs.Cutting.{tails}
use Rattle.sel_table.proofs.Decimals.{decimal_lacks}

amount_pos : (n : ℕ) → IsAmount (pos n) → n ≤ 999999999999
amount_pos n h = let high = h.high in omega (arith, ints, high)

amount_neg : (n : ℕ) → IsAmount (negsuc n) → n < 999999999999
amount_neg n h = let low = h.low in omega (arith, ints, low)

pub pos_amount : (n : ℕ) → n ≤ 999999999999 → IsAmount (pos n)
pos_amount n few = record { low = omega (arith, ints, few); high = omega (arith, ints, few) }

neg_amount : (n : ℕ) → n < 999999999999 → IsAmount (negsuc n)
neg_amount n few = record { low = omega (arith, ints, few); high = omega (arith, ints, few) }

no_minus : (n : ℕ) (digits : List ℕ) → n ≤ 999999999999 → decimal n ≡ 45 ∷ digits → ⊥
no_minus n digits few e =
    let h : Lacks 45 (decimal n) = decimal_lacks 45 n (inl (omega arith)) (omega (arith, few)) in
    let differs = All-head (λ b. (b == 45) ≡ false) 45 digits (subst (Lacks 45) e h) in
    true≢false differs

pub signed_minus : (bytes digits : List ℕ) (o : Option ℤ) → bytes ≡ 45 ∷ digits → IsNegativeOf digits o → IsReadAs IsAmount signed_decimal bytes o
signed_minus bytes digits None e never = λ z h f. go z h (sym e ∙ f)
  where
    go : (z : ℤ) → IsAmount z → 45 ∷ digits ≡ signed_decimal z → ⊥
    go (pos n) h f = no_minus n digits (amount_pos n h) (sym f)
    go (negsuc n) h f = never n (amount_neg n h) (tails f)
signed_minus bytes digits (Some z) e (n, few, is, text) = (subst IsAmount (sym is) (neg_amount n few), e ∙ (ap (λ ds. 45 ∷ ds) text ∙ ap signed_decimal (sym is)))

pub plain_none : (bytes : List ℕ) → ((digits : List ℕ) → bytes ≡ 45 ∷ digits → ⊥) → ((n : ℕ) → n ≤ 999999999999 → bytes ≡ decimal n → ⊥) → (z : ℤ) → IsAmount z → bytes ≡ signed_decimal z → ⊥
plain_none bytes without never (pos n) h f = never n (amount_pos n h) f
plain_none bytes without never (negsuc n) h f = without (decimal (suc n)) f

neg_is : (n : ℕ) → n < 999999999999 → to_z w64 (of_z w64 (pos 0 -ℤ to_z w64 (suc n))) ≡ negsuc n
neg_is n few = omega (arith, ints)

-- behind a minus sign stands no 0
pub nothing_negative : (digits : List ℕ) (amount : ℕ) → amount ≡ 0 → digits ≡ decimal amount → (n : ℕ) → n < 999999999999 → digits ≡ decimal (suc n) → ⊥
nothing_negative digits amount none e n few f = let same : amount ≡ suc n = decimal_injective amount (suc n) (omega (arith, none)) (omega (arith, few)) (sym e ∙ f) in omega (arith, same, none)

pub is_negative : (digits : List ℕ) (amount : ℕ) → (amount ≡ 0 → ⊥) → amount ≤ 999999999999 → digits ≡ decimal amount → (n : ℕ) × (n < 999999999999) × (to_z w64 (of_z w64 (pos 0 -ℤ to_z w64 amount)) ≡ negsuc n) × (digits ≡ decimal (suc n))
is_negative digits zero some few e = absurd (some refl)
is_negative digits (suc n) some few e = let less : n < 999999999999 = omega (arith, few) in (n, less, neg_is n less, e)

pub no_rule : (bytes : List ℕ) (rule rules : ℕ) → rule ≡ 0 → rules < 2 ^ 64 → bytes ≡ decimal rule → (a : ℕ) → (1 ≤ a) × (a ≤ rules) → bytes ≡ decimal a → ⊥
no_rule bytes rule rules none few e a (some, most) f = let same : rule ≡ a = decimal_injective rule a (omega (arith, none)) (omega (arith, few, most)) (sym e ∙ f) in omega (arith, same, none, some)
