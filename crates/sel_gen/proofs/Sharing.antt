-- Shares, one after the other.
use Rattle.std.proofs.Common.{◌≡◌, ℕ, ◌+◌, ◌-◌, ◌<◌, ◌≤◌, List, [], ◌∷◌, ◌++◌, length, ap, sym, ◌∙◌, arith, get_or, take, drop, drop-cons, length-drop, append_assoc, append-nil, add-one}
use Rattle.std.proofs.Math.ListN.{drop_of_length-le}
use Rattle.std.proofs.lemmas.List.{take_all}
use Rattle.rand_pcg.specs.Lcg.{Lcg}
use Rattle.sel_gen.specs.Made.{taken, shared}

-- these shares, and then those
abbrev pub put_before : List ℕ → List ℕ × Lcg → List ℕ × Lcg
put_before xs rest = (xs ++ rest.0, rest.1)

-- the slice from n on is all that is behind n
slice_from : (n : ℕ) (sizes : List ℕ) → take (length sizes - n) (drop n sizes) ≡ drop n sizes
slice_from n sizes = take_all (length sizes - n) (drop n sizes) (omega (arith, length-drop n sizes))

module _ (sizes : List ℕ) (at more left : ℕ) (words new : Lcg) (shares pushed : List ℕ) (lt : at < length sizes) (took : (more, new) ≡ taken (take (length sizes - (at + 1)) (drop (at + 1) sizes)) left words)
    (push : pushed ≡ shares ++ (get_or sizes at 0 + more) ∷ []) where
  apart : drop at sizes ≡ get_or sizes at 0 ∷ drop (at + 1) sizes
  apart = drop-cons sizes at 0 lt ∙ (λ i. get_or sizes at 0 ∷ drop (sym (add-one at) i) sizes)

  pub put_more : put_before shares (shared (drop at sizes) left words) ≡ put_before pushed (shared (drop (at + 1) sizes) (left - more) new)
  put_more =
      ap (λ ys. put_before shares (shared ys left words)) apart
      ∙ ap (λ (m : ℕ × Lcg). put_before shares ((get_or sizes at 0 + m.0) ∷ (shared (drop (at + 1) sizes) (left - m.0) m.1).0, (shared (drop (at + 1) sizes) (left - m.0) m.1).1)) (sym (took ∙ ap (λ ys. taken ys left words) (slice_from (at + 1) sizes)))
      ∙ (λ i. (seam i, (shared (drop (at + 1) sizes) (left - more) new).1))
    where
      seam : shares ++ ((get_or sizes at 0 + more) ∷ (shared (drop (at + 1) sizes) (left - more) new).0) ≡ pushed ++ (shared (drop (at + 1) sizes) (left - more) new).0
      seam = sym (append_assoc shares ((get_or sizes at 0 + more) ∷ []) (shared (drop (at + 1) sizes) (left - more) new).0) ∙ ap (λ x. x ++ (shared (drop (at + 1) sizes) (left - more) new).0) (sym push)

pub put_all : (sizes : List ℕ) (at left : ℕ) (words : Lcg) (shares : List ℕ) → length sizes ≤ at → put_before shares (shared (drop at sizes) left words) ≡ (shares, words)
put_all sizes at left words shares h = ap (λ ys. put_before shares (shared ys left words)) (drop_of_length-le sizes h) ∙ (λ i. (append-nil shares i, words))
