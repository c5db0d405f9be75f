-- Two ways in which a list has an element.
use Rattle.std.proofs.Common.{◌≡◌, inl, inr, zero, suc, List, [], ◌∷◌, map, refl, ap}
use mathlib.Core.Option.{some, some-injective}
use Rattle.sel_law.specs.Words.{In}
use Rattle.sel_law.proofs.Base.{in_nil}
use Rattle.sel_count.proofs.Elements.{IsOneOf}

pub in_one_of : {A : Type 0} (x : A) (xs : List A) → In x xs → IsOneOf x xs
in_one_of x [] h = in_nil x h
in_one_of x (y ∷ ys) (zero, e) = inl (some-injective y x e)
in_one_of x (y ∷ ys) (suc k, e) = inr (in_one_of x ys (k, e))

pub one_of_in : {A : Type 0} (x : A) (xs : List A) → IsOneOf x xs → In x xs
one_of_in x [] h = absurd h
one_of_in x (y ∷ ys) (inl e) = (0, ap some e)
one_of_in x (y ∷ ys) (inr m) = let r = one_of_in x ys m in (suc r.0, r.1)

pub in_map : {A B : Type 0} (f : A → B) (xs : List A) (x : A) → IsOneOf x xs → IsOneOf (f x) (map f xs)
in_map f [] x h = absurd h
in_map f (y ∷ ys) x (inl e) = inl (ap f e)
in_map f (y ∷ ys) x (inr m) = inr (in_map f ys x m)

-- an element of a list that is made of another is made of one of its elements
pub out_map : {A B : Type 0} (f : A → B) (xs : List A) (y : B) → IsOneOf y (map f xs) → (x : A) × IsOneOf x xs × (f x ≡ y)
out_map f [] y h = absurd h
out_map f (x ∷ xs) y (inl e) = (x, inl refl, e)
out_map f (x ∷ xs) y (inr m) = let t = out_map f xs y m in (t.0, inr t.1, t.2)
