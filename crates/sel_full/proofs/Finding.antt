-- Look-ups in lists by a test of equality.
use Rattle.std.proofs.Common.{◌≡◌, ℕ, zero, suc, Bool, true, false, cond, ◌||◌, Some, List, [], ◌∷◌, slice_get, refl, sym, ap, ◌∙◌, true≢false}
use Rattle.std.specs.List.{find, list_any}
use Rattle.sel_full.specs.Reach.{IsOneOf}

left_false : (a b : Bool) → (a || b) ≡ false → a ≡ false
left_false true b h = h
left_false false b h = refl

right_false : (a b : Bool) → (a || b) ≡ false → b ≡ false
right_false true b h = absurd (true≢false h)
right_false false b h = h

module _ {K : Type 0} (eq : K → K → Bool) where
  -- no item is the same as one that none is equal to
  pub none_among : ((x : K) → eq x x ≡ true) → (xs : List K) (x : K) → list_any (eq x) xs ≡ false → IsOneOf xs x → ⊥
  none_among itself [] x e h = let at : slice_get {X = K} [] h.0 ≡ Some x = h.1 in cc
  none_among itself (y ∷ ys) x e h = by h.0 h.1 (none_among itself ys x (right_false (eq x y) _ e))
    where
      by : (n : ℕ) → slice_get (y ∷ ys) n ≡ Some x → (IsOneOf ys x → ⊥) → ⊥
      by zero at rest = let same : y ≡ x = cc in true≢false (sym (itself x) ∙ ap (eq x) (sym same) ∙ left_false (eq x y) _ e)
      by (suc n) at rest = rest (n, at)

  -- none is equal to an item that isn't among them
  pub absent : ((x y : K) → eq x y ≡ true → x ≡ y) → (xs : List K) (x : K) → (IsOneOf xs x → ⊥) → list_any (eq x) xs ≡ false
  absent same [] x none = refl
  absent same (y ∷ ys) x none = by (eq x y) refl (absent same ys x (λ h. none (suc h.0, h.1)))
    where
      by : (b : Bool) → eq x y ≡ b → list_any (eq x) ys ≡ false → list_any (eq x) (y ∷ ys) ≡ false
      by true e rest = absurd (none (0, ap Some (sym (same x y e))))
      by false e rest = ap (λ b. b || list_any (eq x) ys) e ∙ rest

-- an item that a test finds passes it
pub found_passes : {A : Type 0} (test : A → Bool) (xs : List A) (x : A) → Some x ≡ find test xs → test x ≡ true
found_passes test [] x h = cc
found_passes test (y ∷ ys) x h = by (test y) refl (found_passes test ys x)
  where
    by : (b : Bool) → test y ≡ b → (Some x ≡ find test ys → test x ≡ true) → test x ≡ true
    by true e rest = let own : Some x ≡ Some y = h ∙ ap (λ b. cond b (Some y) (find test ys)) e in let same : x ≡ y = cc in ap test same ∙ e
    by false e rest = rest (h ∙ ap (λ b. cond b (Some y) (find test ys)) e)
