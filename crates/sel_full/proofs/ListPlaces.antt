-- Places in lists that are put together.
use Rattle.std.proofs.Common.{◌≡◌, ℕ, zero, suc, ◌+◌, ◌<◌, ◌≤◌, ◌⊎◌, inl, inr, Some, List, [], ◌∷◌, ◌++◌, refl, ap, sym, ◌∙◌, slice_get, length, map, take, arith}
use Rattle.std.specs.List.{flat_map, range_with_len}
use Rattle.std.proofs.lemmas.List.Concat.{flat_map-append}
use Rattle.sel_normal.proofs.Steps.{some_same, some_none}
use Rattle.sel_full.proofs.KeyRows.{append_none, take_next, range_next}

pub get_left : {A : Type 0} (xs ys : List A) (k : ℕ) (x : A) → slice_get xs k ≡ Some x → slice_get (xs ++ ys) k ≡ Some x
get_left [] ys k x h = absurd (some_none (sym h))
get_left (y ∷ xs) ys zero x h = h
get_left (y ∷ xs) ys (suc k) x h = get_left xs ys k x h

pub get_back : {A : Type 0} (xs ys : List A) (k : ℕ) → k < length xs → slice_get (xs ++ ys) k ≡ slice_get xs k
get_back [] ys k h = absurd (omega arith)
get_back (y ∷ xs) ys zero h = refl
get_back (y ∷ xs) ys (suc k) h = get_back xs ys k (omega arith)

pub get_right : {A : Type 0} (xs ys : List A) (k : ℕ) → slice_get (xs ++ ys) (length xs + k) ≡ slice_get ys k
get_right [] ys k = let e : 0 + k ≡ k = omega arith in ap (slice_get ys) e
get_right (x ∷ xs) ys k = let e : suc (length xs) + k ≡ suc (length xs + k) = omega arith in ap (slice_get (x ∷ (xs ++ ys))) e ∙ get_right xs ys k

abbrev pub IsIn : {A : Type 0} → List A → List A → ℕ → A → Type 0
IsIn xs ys p x = (slice_get xs p ≡ Some x) ⊎ ((q : ℕ) × (p ≡ length xs + q) × (slice_get ys q ≡ Some x))

pub get_split : {A : Type 0} (xs ys : List A) (p : ℕ) (x : A) → slice_get (xs ++ ys) p ≡ Some x → IsIn xs ys p x
get_split [] ys p x h = let e : p ≡ 0 + p = omega arith in inr (p, e, h)
get_split (y ∷ xs) ys zero x h = inl h
get_split (y ∷ xs) ys (suc p) x h = go (get_split xs ys p x h)
  where
    go : IsIn xs ys p x → IsIn (y ∷ xs) ys (suc p) x
    go (inl e) = inl e
    go (inr (q, e, at)) = let f : suc p ≡ suc (length xs) + q = omega arith in inr (q, f, at)

pub one_get : {A : Type 0} (x y : A) (p : ℕ) → slice_get (x ∷ []) p ≡ Some y → (p ≡ 0) × (x ≡ y)
one_get x y zero h = (refl, some_same h)
one_get x y (suc p) h = absurd (some_none (sym h))

pub within_get : {A : Type 0} (xs : List A) (n : ℕ) → n < length xs → (x : A) × (slice_get xs n ≡ Some x)
within_get [] n h = absurd (omega arith)
within_get (x ∷ xs) zero h = (x, refl)
within_get (x ∷ xs) (suc n) h = within_get xs n (omega arith)

pub get_map : {A B : Type 0} (f : A → B) (xs : List A) (k : ℕ) (x : A) → slice_get xs k ≡ Some x → slice_get (map f xs) k ≡ Some (f x)
get_map f [] k x h = absurd (some_none (sym h))
get_map f (y ∷ xs) zero x h = ap (λ y. Some (f y)) (some_same h)
get_map f (y ∷ xs) (suc k) x h = get_map f xs k x h

pub map_append : {A B : Type 0} (f : A → B) (xs ys : List A) → map f (xs ++ ys) ≡ map f xs ++ map f ys
map_append f [] ys = refl
map_append f (x ∷ xs) ys = ap (λ zs. f x ∷ zs) (map_append f xs ys)

pub take_whole : {A : Type 0} (xs : List A) (k : ℕ) → length xs ≤ k → take k xs ≡ xs
take_whole [] zero h = refl
take_whole [] (suc k) h = refl
take_whole (x ∷ xs) zero h = absurd (omega arith)
take_whole (x ∷ xs) (suc k) h = ap (λ zs. x ∷ zs) (take_whole xs k (omega arith))

pub take_left : {A : Type 0} (xs ys : List A) (k : ℕ) → k ≤ length xs → take k (xs ++ ys) ≡ take k xs
take_left xs ys zero h = refl
take_left [] ys (suc k) h = absurd (omega arith)
take_left (x ∷ xs) ys (suc k) h = ap (λ zs. x ∷ zs) (take_left xs ys k (omega arith))

pub get_taken : {A : Type 0} (xs : List A) (k m : ℕ) (x : A) → m < k → slice_get xs m ≡ Some x → slice_get (take k xs) m ≡ Some x
get_taken [] k m x l h = absurd (some_none (sym h))
get_taken (y ∷ xs) zero m x l h = absurd (omega arith)
get_taken (y ∷ xs) (suc k) zero x l h = h
get_taken (y ∷ xs) (suc k) (suc m) x l h = get_taken xs k m x (omega arith) h

pub map_taken : {A B : Type 0} (f : A → B) (xs : List A) (k : ℕ) (x : A) → slice_get xs k ≡ Some x → map f (take (k + 1) xs) ≡ map f (take k xs) ++ f x ∷ []
map_taken f xs k x h =
    let e : k + 1 ≡ suc k = omega arith in
    ap (λ n. map f (take n xs)) e ∙ (ap (map f) (take_next xs k x h) ∙ map_append f (take k xs) (x ∷ []))

pub flat_next : {B : Type 0} (f : ℕ → List B) (op : ℕ) → flat_map f (range_with_len 0 (op + 1)) ≡ flat_map f (range_with_len 0 op) ++ f op
flat_next f op =
    let q : op + 1 ≡ suc op = omega arith in
    let e : 0 + op ≡ op = omega arith in
    ap (λ n. flat_map f (range_with_len 0 n)) q ∙ (ap (flat_map f) (range_next op 0 ∙ ap (λ b. range_with_len 0 op ++ b ∷ []) e)
    ∙ (flat_map-append f (range_with_len 0 op) (op ∷ []) ∙ ap (λ ys. flat_map f (range_with_len 0 op) ++ ys) (append_none (f op))))
