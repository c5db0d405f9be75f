-- Look-ups in lists by a test of equality.
use Rattle.std.proofs.Common.{◌≡◌, ℕ, zero, suc, Bool, true, false, cond, ◌||◌, Some, None, List, [], ◌∷◌, slice_get, refl, sym, ap, ◌∙◌, true≢false}
use Rattle.std.specs.List.{find, list_any}
use Rattle.std.specs.Map.{lookup}
use Rattle.std.proofs.lemmas.Map.Entries.{place_from_lookup}
use Rattle.sel_auto.specs.Sets.{IsAmong}

left_false : (a b : Bool) → (a || b) ≡ false → a ≡ false
left_false true b h = h
left_false false b h = refl

right_false : (a b : Bool) → (a || b) ≡ false → b ≡ false
right_false true b h = absurd (true≢false h)
right_false false b h = h

module _ {K : Type 0} (eq : K → K → Bool) where
  -- no item is the same as one that none is equal to
  pub none_among : ((x : K) → eq x x ≡ true) → (xs : List K) (x : K) → list_any (eq x) xs ≡ false → IsAmong xs x → ⊥
  none_among itself [] x e h = let at : slice_get {X = K} [] h.0 ≡ Some x = h.1 in cc
  none_among itself (y ∷ ys) x e h = by h.0 h.1 (none_among itself ys x (right_false (eq x y) _ e))
    where
      by : (n : ℕ) → slice_get (y ∷ ys) n ≡ Some x → (IsAmong ys x → ⊥) → ⊥
      by zero at rest = let same : y ≡ x = cc in true≢false (sym (itself x) ∙ ap (eq x) (sym same) ∙ left_false (eq x y) _ e)
      by (suc n) at rest = rest (n, at)

  -- none is equal to an item that isn't among them
  pub absent : ((x y : K) → eq x y ≡ true → x ≡ y) → (xs : List K) (x : K) → (IsAmong xs x → ⊥) → list_any (eq x) xs ≡ false
  absent same [] x none = refl
  absent same (y ∷ ys) x none = by (eq x y) refl (absent same ys x (λ h. none (suc h.0, h.1)))
    where
      by : (b : Bool) → eq x y ≡ b → list_any (eq x) ys ≡ false → list_any (eq x) (y ∷ ys) ≡ false
      by true e rest = absurd (none (0, ap Some (sym (same x y e))))
      by false e rest = ap (λ b. b || list_any (eq x) ys) e ∙ rest

  module _ {X : Type 0} where
    -- a key without a number
    pub no_number : ((x : K) → eq x x ≡ true) → (es : List (K × X)) (k : K) → lookup (eq k) es ≡ None → (v : X) → IsAmong es (k, v) → ⊥
    no_number itself [] k e v h = let at : slice_get {X = K × X} [] h.0 ≡ Some (k, v) = h.1 in cc
    no_number itself (f ∷ es) k e v h = by h.0 h.1 (eq k f.0) refl (no_number itself es k)
      where
        by : (n : ℕ) → slice_get (f ∷ es) n ≡ Some (k, v) → (b : Bool) → eq k f.0 ≡ b → (lookup (eq k) es ≡ None → (w : X) → IsAmong es (k, w) → ⊥) → ⊥
        by n at true p rest = let some : Some f.1 ≡ None = ap (λ b. cond b (Some f.1) (lookup (eq k) es)) (sym p) ∙ e in cc
        by zero at false p rest = let own : f ≡ (k, v) = cc in true≢false (sym (itself k) ∙ ap (λ (x : K × X). eq k x.0) (sym own) ∙ p)
        by (suc n) at false p rest = rest (ap (λ b. cond b (Some f.1) (lookup (eq k) es)) (sym p) ∙ e) v (n, at)

    pub no_lookup : ((x y : K) → eq x y ≡ true → x ≡ y) → (es : List (K × X)) (k : K) → ((v : X) → IsAmong es (k, v) → ⊥) → lookup (eq k) es ≡ None
    no_lookup same [] k none = refl
    no_lookup same (f ∷ es) k none = by (eq k f.0) refl (no_lookup same es k (λ v h. none v (suc h.0, h.1)))
      where
        by : (b : Bool) → eq k f.0 ≡ b → lookup (eq k) es ≡ None → lookup (eq k) (f ∷ es) ≡ None
        by true p rest = absurd (none f.1 (0, let e = same k f.0 p in λ i. Some (sym e i, f.1)))
        by false p rest = ap (λ b. cond b (Some f.1) (lookup (eq k) es)) p ∙ rest

    -- a key's number stands beside it
    pub found_number : ((x y : K) → eq x y ≡ true → x ≡ y) → (es : List (K × X)) (k : K) (v : X) → lookup (eq k) es ≡ Some v → IsAmong es (k, v)
    found_number same es k v e = let p = place_from_lookup (eq k) es v e in
        (p.0, p.2 ∙ (let o = same k p.1 p.3 in λ i. Some (sym o i, v)))

-- an item that a test finds passes it
pub found_passes : {A : Type 0} (test : A → Bool) (xs : List A) (x : A) → Some x ≡ find test xs → test x ≡ true
found_passes test [] x h = cc
found_passes test (y ∷ ys) x h = by (test y) refl (found_passes test ys x)
  where
    by : (b : Bool) → test y ≡ b → (Some x ≡ find test ys → test x ≡ true) → test x ≡ true
    by true e rest = let own : Some x ≡ Some y = h ∙ ap (λ b. cond b (Some y) (find test ys)) e in let same : x ≡ y = cc in ap test same ∙ e
    by false e rest = rest (h ∙ ap (λ b. cond b (Some y) (find test ys)) e)
