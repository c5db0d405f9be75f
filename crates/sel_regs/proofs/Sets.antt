-- Items of lists, where one was set.
use Rattle.std.proofs.Common.{◌≡◌, ℕ, zero, suc, ◌+◌, ◌<◌, Some, List, [], ◌∷◌, ◌++◌, length, take, slice_get, get_or, refl, ap, ◌∙◌, subst, set, arith}
use Rattle.std.proofs.Math.Seq.{take-append_seam}
use Rattle.std.specs.List.{range_with_len}

pub set_here : {A : Type 0} (xs : List A) (i : ℕ) (x : A) → i < length xs → slice_get (set xs i x) i ≡ Some x
set_here [] i x h = absurd (omega arith)
set_here (y ∷ xs) zero x h = refl
set_here (y ∷ xs) (suc i) x h = set_here xs i x (omega arith)

pub set_other : {A : Type 0} (xs : List A) (i j : ℕ) (x : A) → (j ≡ i → ⊥) → slice_get (set xs i x) j ≡ slice_get xs j
set_other [] i j x h = refl
set_other (y ∷ xs) zero zero x h = absurd (h refl)
set_other (y ∷ xs) zero (suc j) x h = refl
set_other (y ∷ xs) (suc i) zero x h = refl
set_other (y ∷ xs) (suc i) (suc j) x h = set_other xs i j x (λ e. h (ap suc e))

pub range_more : (a n : ℕ) → range_with_len a (suc n) ≡ range_with_len a n ++ (a + n) ∷ []
range_more a zero = λ i. plain a i ∷ []
  where
    plain : (a : ℕ) → a ≡ a + 0
    plain a = omega arith
range_more a (suc n) = λ i. a ∷ (range_more (a + 1) n ∙ ap (λ x. range_with_len (a + 1) n ++ x ∷ []) (next a n)) i
  where
    next : (a n : ℕ) → a + 1 + n ≡ a + suc n
    next a n = omega arith

-- what is read at a place is the item there, whatever stands for none
pub item_at : {A : Type 0} (xs : List A) (i : ℕ) (x d : A) → i < length xs → x ≡ get_or xs i x → x ≡ get_or xs i d
item_at [] i x d h e = absurd (omega arith)
item_at (y ∷ xs) zero x d h e = e
item_at (y ∷ xs) (suc i) x d h e = item_at xs i x d (omega arith) e

pub whole_again : {A : Type 0} (n : ℕ) (xs ys : List A) → length xs ≡ n → take n (xs ++ ys) ≡ xs
whole_again n xs ys h = subst (λ m. take m (xs ++ ys) ≡ xs) h (take-append_seam xs ys)
