-- What holds of each item of a list.
use Rattle.std.proofs.Common.{◌≡◌, ℕ, zero, suc, Some, List, [], ◌∷◌, ◌++◌, subst, slice_get}
use Rattle.sel_forest.proofs.Matching.{some_same}

abbrev pub AllOf : {A : Type 0} → (A → Type 0) → List A → Type 0
AllOf {A} P xs = (j : ℕ) (x : A) → slice_get xs j ≡ Some x → P x

module _ {A : Type 0} (P : A → Type 0) where
  pub both_lists : (xs ys : List A) → AllOf P xs → AllOf P ys → AllOf P (xs ++ ys)
  both_lists [] ys h k j x e = k j x e
  both_lists (z ∷ xs) ys h k zero x e = h zero x e
  both_lists (z ∷ xs) ys h k (suc j) x e = both_lists xs ys (λ j x e. h (suc j) x e) k j x e

  pub one_more : (z : A) (xs : List A) → P z → AllOf P xs → AllOf P (z ∷ xs)
  one_more z xs h k zero x e = subst P (some_same e) h
  one_more z xs h k (suc j) x e = k j x e

  pub no_items : AllOf P []
  no_items j x e = absurd (let no : slice_get {X = A} [] j ≡ Some x = e in cc)
