-- Lists by their places, and a list around one of its items.
use Rattle.std.proofs.Common.{◌≡◌, ℕ, zero, suc, ◌+◌, ◌<◌, List, [], ◌∷◌, ◌++◌, Some, All, length, take, drop, refl, ap, sym, ◌∙◌, subst, arith, slice_get, slice_index_or, take-suc, add-one}
use Rattle.std.proofs.lemmas.List.Elements.{All-cons, All-nil, All-head, All-tail}

pub all_from_get : {X : Type 0} (P : X → Type 0) (xs : List X) → ((k : ℕ) (x : X) → slice_get xs k ≡ Some x → P x) → All P xs
all_from_get P [] h = All-nil P
all_from_get P (x ∷ xs) h = All-cons P x xs (h zero x refl) (all_from_get P xs (λ k y e. h (suc k) y e))

pub all_get : {X : Type 0} (P : X → Type 0) (xs : List X) (k : ℕ) (x : X) → All P xs → slice_get xs k ≡ Some x → P x
all_get P [] k x h e = cc
all_get P (y ∷ xs) zero x h e = let q : y ≡ x = cc in subst P q (All-head P y xs h)
all_get P (y ∷ xs) (suc k) x h e = all_get P xs k x (All-tail P y xs h) e

pub take_next : {X : Type 0} (xs : List X) (k : ℕ) (x : X) → k < length xs → x ≡ slice_index_or xs k x → take (k + 1) xs ≡ take k xs ++ (x ∷ [])
take_next xs k x lt is = subst (λ t. take (k + 1) xs ≡ take k xs ++ (t ∷ [])) (sym is) (ap (λ k. take k xs) (add-one k) ∙ take-suc xs k x lt)

pub around : {X : Type 0} (xs : List X) (k : ℕ) (x : X) → k < length xs → x ≡ slice_index_or xs k x → xs ≡ take k xs ++ (x ∷ drop (k + 1) xs)
around [] k x lt is = absurd (omega arith)
around (y ∷ xs) zero x lt is = ap (λ z. z ∷ xs) (sym is)
around (y ∷ xs) (suc k) x lt is = let one : suc k + 1 ≡ suc (k + 1) = omega arith in ap (λ zs. y ∷ zs) (around xs k x (omega arith) is) ∙ ap (λ n. y ∷ (take k xs ++ (x ∷ drop n (y ∷ xs)))) (sym one)

pub get_here : {X : Type 0} (xs : List X) (k : ℕ) (x : X) → k < length xs → x ≡ slice_index_or xs k x → slice_get xs k ≡ Some x
get_here [] k x lt is = absurd (omega arith)
get_here (y ∷ xs) zero x lt is = ap Some (sym is)
get_here (y ∷ xs) (suc k) x lt is = get_here xs k x (omega arith) is
