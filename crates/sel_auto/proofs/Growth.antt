-- Lists with one item more.
use Rattle.std.proofs.Common.{◌≡◌, ℕ, zero, suc, ◌<◌, ◌⊎◌, inl, inr, Some, List, [], ◌∷◌, ◌++◌, length, slice_get, map, refl, sym, ap, subst, ◌∙◌, arith}
use Rattle.std.proofs.lemmas.Option.{slice_get_within}
use Rattle.std.proofs.lemmas.List.{map-append}
use Rattle.sel_auto.specs.Sets.{IsAmong, AreDifferent}

module _ {A : Type 0} where
  pub some_same : (x y : A) → Some x ≡ Some y → x ≡ y
  some_same x y h = cc

  pub get_front : (xs ys : List A) (n : ℕ) → n < length xs → slice_get (xs ++ ys) n ≡ slice_get xs n
  get_front [] ys n h = absurd (omega arith)
  get_front (x ∷ xs) ys zero h = refl
  get_front (x ∷ xs) ys (suc n) h = get_front xs ys n (omega arith)

  pub get_kept : (xs ys : List A) (n : ℕ) (x : A) → slice_get xs n ≡ Some x → slice_get (xs ++ ys) n ≡ Some x
  get_kept xs ys n x h = get_front xs ys n (slice_get_within xs n x h) ∙ h

  pub get_last : (xs : List A) (x : A) → slice_get (xs ++ x ∷ []) (length xs) ≡ Some x
  get_last [] x = refl
  get_last (y ∷ xs) x = get_last xs x

  -- what stands in the longer list is an old item or the last
  pub get_split : (xs : List A) (x : A) (n : ℕ) (y : A) → slice_get (xs ++ x ∷ []) n ≡ Some y → (slice_get xs n ≡ Some y) ⊎ ((n ≡ length xs) × (y ≡ x))
  get_split [] x zero y h = inr (refl, some_same y x (sym h))
  get_split [] x (suc n) y h = absurd (let no_item : slice_get {X = A} [] n ≡ Some y = h in cc)
  get_split (z ∷ xs) x zero y h = inl h
  get_split (z ∷ xs) x (suc n) y h = by (get_split xs x n y h)
    where
      by : (slice_get xs n ≡ Some y) ⊎ ((n ≡ length xs) × (y ≡ x)) → (slice_get xs n ≡ Some y) ⊎ ((suc n ≡ suc (length xs)) × (y ≡ x))
      by (inl e) = inl e
      by (inr e) = inr (ap suc e.0, e.1)

  pub IsAmong-push : (xs : List A) (x y : A) → IsAmong (xs ++ x ∷ []) y → IsAmong xs y ⊎ (y ≡ x)
  IsAmong-push xs x y h = by (get_split xs x h.0 y h.1)
    where
      by : (slice_get xs h.0 ≡ Some y) ⊎ ((h.0 ≡ length xs) × (y ≡ x)) → IsAmong xs y ⊎ (y ≡ x)
      by (inl e) = inl (h.0, e)
      by (inr e) = inr e.1

  pub IsAmong-kept : (xs ys : List A) (x : A) → IsAmong xs x → IsAmong (xs ++ ys) x
  IsAmong-kept xs ys x h = (h.0, get_kept xs ys h.0 x h.1)

  -- items stay different where a new one comes
  pub AreDifferent-push : (xs : List A) (x : A) → AreDifferent xs → (IsAmong xs x → ⊥) → AreDifferent (xs ++ x ∷ [])
  AreDifferent-push xs x differ fresh m n y h k = by (get_split xs x m y h) (get_split xs x n y k)
    where
      by : (slice_get xs m ≡ Some y) ⊎ ((m ≡ length xs) × (y ≡ x)) → (slice_get xs n ≡ Some y) ⊎ ((n ≡ length xs) × (y ≡ x)) → m ≡ n
      by (inl e) (inl f) = differ m n y e f
      by (inl e) (inr f) = absurd (fresh (m, e ∙ ap Some f.1))
      by (inr e) (inl f) = absurd (fresh (n, f ∙ ap Some e.1))
      by (inr e) (inr f) = e.0 ∙ sym f.0

module _ {K X : Type 0} where
  -- a key has a value beside it
  pub beside : (es : List (K × X)) (k : K) → IsAmong (map (λ e. e.0) es) k → (v : X) × IsAmong es (k, v)
  beside es k h = go es h.0 h.1
    where
      go : (fs : List (K × X)) (n : ℕ) → slice_get (map (λ e. e.0) fs) n ≡ Some k → (v : X) × IsAmong fs (k, v)
      go [] n e = absurd (let no_item : slice_get {X = K} [] n ≡ Some k = e in cc)
      go (f ∷ fs) zero e = (f.1, (0, let same = some_same f.0 k e in λ i. Some (same i, f.1)))
      go (f ∷ fs) (suc n) e = let r = go fs n e in (r.0, (suc (r.1).0, (r.1).1))

  pub keys_differ : (es : List (K × X)) (k : K) (v : X) → AreDifferent (map (λ e. e.0) es) → ((w : X) → IsAmong es (k, w) → ⊥) → AreDifferent (map (λ e. e.0) (es ++ (k, v) ∷ []))
  keys_differ es k v differ fresh =
      subst AreDifferent (sym (map-append (λ e. e.0) es ((k, v) ∷ []))) (AreDifferent-push (map (λ e. e.0) es) k differ (λ h. let r = beside es k h in fresh r.0 r.1))
