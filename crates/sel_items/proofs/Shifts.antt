-- The word of an entry fits 64 bits.
use Rattle.std.proofs.Common.{◌≡◌, ℕ, ◌+◌, ◌*◌, ◌%◌, ◌<◌, ◌≤◌, ◌^◌, arith, refl, ap, sym, subst, ◌∙◌, w64, ℤ, pos, negsuc, ◌+ℤ◌, ◌≤ℤ◌, neg_ℤ, to_z, of_z}
use Rattle.std.specs.Prelude.{nat_abs}
use Rattle.std.proofs.lemmas.Int.{ints}

natural : (z : ℤ) → pos 0 ≤ℤ z → (n : ℕ) × (z ≡ pos n)
natural (pos n) h = (n, refl)
natural (negsuc n) h = absurd (omega (arith, ints))

as_is : (z : ℤ) → neg_ℤ (pos 1048576) ≤ℤ z → z ≤ℤ pos 1048576 → to_z w64 (of_z w64 z) ≡ z
as_is z h k = omega (arith, ints)

wide : (first n : ℕ) → first < 268435456 → n ≤ 1048575 → (first * 68719476736 % 18446744073709551616 ≡ first * 2 ^ 36) × (n * 65536 % 18446744073709551616 ≡ n * 2 ^ 16)
wide first n h k = (omega arith, omega arith)

-- the word, as it is put together
abbrev pub put_together : ℕ → ℤ → ℕ → ℕ
put_together first second rule = first * 68719476736 % 18446744073709551616 + nat_abs (to_z w64 (of_z w64 (to_z w64 (of_z w64 second) +ℤ pos 524288))) * 65536 % 18446744073709551616 + (rule + 1)

pub packed : (first : ℕ) (second : ℤ) (rule : ℕ) → first < 268435456 → neg_ℤ (pos 524288) ≤ℤ second → second ≤ℤ pos 524287
    → (shifted : ℕ) × (pos shifted ≡ second +ℤ pos 524288) × (put_together first second rule ≡ first * 2 ^ 36 + shifted * 2 ^ 16 + rule + 1)
packed first second rule h low high = go (natural (second +ℤ pos 524288) (omega (arith, ints)))
  where
    small : (n : ℕ) → second +ℤ pos 524288 ≡ pos n → n ≤ 1048575
    small n e = omega (arith, ints)

    there : (n : ℕ) → second +ℤ pos 524288 ≡ pos n → n ≤ 1048575 → to_z w64 (of_z w64 (to_z w64 (of_z w64 second) +ℤ pos 524288)) ≡ pos n
    there n e l =
        ap (λ z. to_z w64 (of_z w64 (z +ℤ pos 524288))) (as_is second (omega (arith, ints)) (omega (arith, ints)))
        ∙ ap (λ z. to_z w64 (of_z w64 z)) e ∙ as_is (pos n) (omega (arith, ints)) (omega (arith, ints))

    go : (n : ℕ) × (second +ℤ pos 524288 ≡ pos n) → (shifted : ℕ) × (pos shifted ≡ second +ℤ pos 524288) × (put_together first second rule ≡ first * 2 ^ 36 + shifted * 2 ^ 16 + rule + 1)
    go (n, e) =
        let l = small n e in
        let w = wide first n h l in
        let t : nat_abs (to_z w64 (of_z w64 (to_z w64 (of_z w64 second) +ℤ pos 524288))) ≡ n = ap nat_abs (there n e l) in
        (n, sym e, sums (nat_abs (to_z w64 (of_z w64 (to_z w64 (of_z w64 second) +ℤ pos 524288)))) n t w.0 w.1)
      where
        sums : (m n : ℕ) → m ≡ n → first * 68719476736 % 18446744073709551616 ≡ first * 2 ^ 36 → n * 65536 % 18446744073709551616 ≡ n * 2 ^ 16
            → first * 68719476736 % 18446744073709551616 + m * 65536 % 18446744073709551616 + (rule + 1) ≡ first * 2 ^ 36 + n * 2 ^ 16 + rule + 1
        sums m n e f k = subst (λ x. first * 68719476736 % 18446744073709551616 + x * 65536 % 18446744073709551616 + (rule + 1) ≡ first * 2 ^ 36 + n * 2 ^ 16 + rule + 1) (sym e) (omega arith)
