-- Members of lists that are put together.
use Rattle.std.proofs.Common.{◌≡◌, ◌⊎◌, inl, inr, ⊎_elim, suc, List, [], ◌∷◌, ◌++◌, length, map, refl, ap}
use Rattle.std.specs.List.{Contains}
use Rattle.sel_count.proofs.Elements.{IsOneOf, is_one_of, contains}

one_of_front : {A : Type 0} (x : A) (xs ys : List A) → IsOneOf x xs → IsOneOf x (xs ++ ys)
one_of_front x [] ys h = absurd h
one_of_front x (z ∷ xs) ys (inl e) = inl e
one_of_front x (z ∷ xs) ys (inr m) = inr (one_of_front x xs ys m)

one_of_back : {A : Type 0} (x : A) (xs ys : List A) → IsOneOf x ys → IsOneOf x (xs ++ ys)
one_of_back x [] ys h = h
one_of_back x (z ∷ xs) ys h = inr (one_of_back x xs ys h)

pub contains_front : {A : Type 0} (x : A) (xs ys : List A) → Contains xs x → Contains (xs ++ ys) x
contains_front x xs ys c = contains (xs ++ ys) x (one_of_front x xs ys (is_one_of xs x c))

pub contains_back : {A : Type 0} (x : A) (xs ys : List A) → Contains ys x → Contains (xs ++ ys) x
contains_back x xs ys c = contains (xs ++ ys) x (one_of_back x xs ys (is_one_of ys x c))

pub append_none : {A : Type 0} (xs : List A) → xs ++ [] ≡ xs
append_none [] = refl
append_none (x ∷ xs) = ap (λ l. x ∷ l) (append_none xs)

pub one_of_front_or_back : {A : Type 0} (x : A) (xs ys : List A) → IsOneOf x (xs ++ ys) → IsOneOf x xs ⊎ IsOneOf x ys
one_of_front_or_back x [] ys h = inr h
one_of_front_or_back x (z ∷ xs) ys (inl e) = inl (inl e)
one_of_front_or_back x (z ∷ xs) ys (inr m) = ⊎_elim (λ a. inl (inr a)) (λ b. inr b) (one_of_front_or_back x xs ys m)

pub append_assoc : {A : Type 0} (xs ys zs : List A) → (xs ++ ys) ++ zs ≡ xs ++ (ys ++ zs)
append_assoc [] ys zs = refl
append_assoc (x ∷ xs) ys zs = ap (λ l. x ∷ l) (append_assoc xs ys zs)

pub map_append : {A B : Type 0} (f : A → B) (xs ys : List A) → map f (xs ++ ys) ≡ map f xs ++ map f ys
map_append f [] ys = refl
map_append f (x ∷ xs) ys = ap (λ l. f x ∷ l) (map_append f xs ys)

pub map_long : {A B : Type 0} (f : A → B) (xs : List A) → length (map f xs) ≡ length xs
map_long f [] = refl
map_long f (x ∷ xs) = ap suc (map_long f xs)
