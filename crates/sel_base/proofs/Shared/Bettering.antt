-- A row of places that are bettered one by one, and why that ends: each place has a distance from its least entry, and their sum falls.
use Rattle.std.proofs.Common.{◌≡◌, ℕ, zero, suc, ◌+◌, ◌*◌, ◌^◌, ◌<◌, ◌≤◌, Bool, true, false, List, [], ◌∷◌, length, refl, ap, subst, arith, Option, None, slice_get, get_or}
use Rattle.std.specs.Prelude.{slice_set}
use Rattle.std.specs.List.{sum_by}
use Rattle.std.specs.Option.{option_flatten}
use Rattle.std.proofs.lemmas.List.Sums.{sum_by-set}
use Rattle.std.proofs.lemmas.Option.{slice_get-get_or}

-- the entry of a place, where it has one
abbrev pub place_at : {A : Type 0} → List (Option A) → ℕ → Option A
place_at row n = option_flatten (slice_get row n)

pub place_at-get_or : {A : Type 0} (row : List (Option A)) (n : ℕ) → n < length row → place_at row n ≡ get_or row n None
place_at-get_or row n h = ap option_flatten (slice_get-get_or row n None h)

pub place_at-set_same : {A : Type 0} (row : List (Option A)) (n : ℕ) (o : Option A) → n < length row → place_at (slice_set row n o) n ≡ o
place_at-set_same [] n o h = absurd (omega arith)
place_at-set_same (x ∷ row) zero o h = refl
place_at-set_same (x ∷ row) (suc n) o h = place_at-set_same row n o (omega arith)

pub place_at-set_other : {A : Type 0} (row : List (Option A)) (n m : ℕ) (o : Option A) → (n ≡ m → ⊥) → place_at (slice_set row n o) m ≡ place_at row m
place_at-set_other [] n m o h = refl
place_at-set_other (x ∷ row) zero zero o h = absurd (h refl)
place_at-set_other (x ∷ row) zero (suc m) o h = refl
place_at-set_other (x ∷ row) (suc n) zero o h = refl
place_at-set_other (x ∷ row) (suc n) (suc m) o h = place_at-set_other row n m o (λ e. h (ap suc e))

less : (new old near far : ℕ) → near < far → new + far ≡ old + near → new < old
less new old near far h k = omega arith

-- the sum falls where a place comes nearer
pub total_falls : {A : Type 0} (distance : Option A → ℕ) (old new : List (Option A)) (n : ℕ) (o : Option A) → new ≡ slice_set old n o → n < length old
    → distance o < distance (get_or old n None) → sum_by distance new < sum_by distance old
total_falls distance old new n o set h near = rw set (less _ _ _ _ near (sum_by-set distance old n o None h))

-- what a loop over rules says of the sum, after one rule more
pub falls_more : {R : Type 0} (total : R → ℕ) (old row new : R) (changed : Bool) → (changed ≡ false → row ≡ old) → (changed ≡ true → total row < total old) → total new < total row → total new < total old
falls_more total old row new true stays falls h = let f = falls refl in omega arith
falls_more total old row new false stays falls h = subst (λ x. total new < total x) (stays refl) h

-- distances of two parts: the first decides, and the second breaks its ties
pub first_decides : (a b q w : ℕ) → a < b → q < 2 ^ 16 → a * 2 ^ 16 + q < b * 2 ^ 16 + w
first_decides a b q w h k = omega arith

pub second_decides : (a b q w : ℕ) → a ≡ b → q < w → a * 2 ^ 16 + q < b * 2 ^ 16 + w
second_decides a b q w h k = omega arith
