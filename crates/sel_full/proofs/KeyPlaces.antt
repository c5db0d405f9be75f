-- The places of keys.
use Rattle.std.proofs.Common.{◌≡◌, ℕ, zero, suc, ◌+◌, ◌*◌, ◌<◌, Some, List, [], ◌∷◌, ◌++◌, refl, ap, sym, ◌∙◌, subst, slice_get, length, length-append, map, arith}
use Rattle.std.specs.List.{flat_map, range_with_len}
use Rattle.std.proofs.Math.Nat.{suc-mul}
use Rattle.sel_grammar.specs.Limits.{most_operators}
use Rattle.sel_normal.specs.NormalForms.{NormalForm}
use Rattle.sel_normal.proofs.Steps.{some_same, some_none}
use Rattle.sel_items.specs.declared.items.Items.{Items}
use Rattle.sel_items.specs.Follows.{NodeKey, key_of}
use Rattle.sel_full.specs.Tables.{occurring, kids_by, keys_with, keys_of, all_keys, key_start}
use Rattle.sel_full.specs.Laws.{HasPlaces, KeysHavePlaces}

get_left : {A : Type 0} (xs ys : List A) (k : ℕ) (x : A) → slice_get xs k ≡ Some x → slice_get (xs ++ ys) k ≡ Some x
get_left [] ys k x h = absurd (some_none (sym h))
get_left (y ∷ xs) ys zero x h = h
get_left (y ∷ xs) ys (suc k) x h = get_left xs ys k x h

get_right : {A : Type 0} (xs ys : List A) (k j : ℕ) (x : A) → j ≡ length xs + k → slice_get ys k ≡ Some x → slice_get (xs ++ ys) j ≡ Some x
get_right [] ys k j x e h = let q : j ≡ k = omega arith in ap (slice_get ys) q ∙ h
get_right (y ∷ xs) ys k zero x e h = absurd (omega arith)
get_right (y ∷ xs) ys k (suc j) x e h = get_right xs ys k j x (omega arith) h

pub get_map : {A B : Type 0} (f : A → B) (xs : List A) (k : ℕ) (x : A) → slice_get xs k ≡ Some x → slice_get (map f xs) k ≡ Some (f x)
get_map f [] k x h = absurd (some_none (sym h))
get_map f (y ∷ xs) zero x h = ap (λ y. Some (f y)) (some_same h)
get_map f (y ∷ xs) (suc k) x h = get_map f xs k x h

-- behind what the numbers before give
flat_range : {A : Type 0} (f : ℕ → List A) (m n a i k p : ℕ) (y : A) → m < n → i ≡ a + m → p ≡ length (flat_map f (range_with_len a m)) + k → slice_get (f i) k ≡ Some y → slice_get (flat_map f (range_with_len a n)) p ≡ Some y
flat_range f m zero a i k p y l e q h = absurd (omega arith)
flat_range f zero (suc n) a i k p y l e q h =
    let s : a ≡ i = omega arith in let t : k ≡ p = omega arith in
    get_left (f a) (flat_map f (range_with_len (a + 1) n)) p y (subst (λ p. slice_get (f a) p ≡ Some y) t (subst (λ i. slice_get (f i) k ≡ Some y) (sym s) h))
flat_range f (suc m) (suc n) a i k p y l e q h =
    let long = length-append (f a) (flat_map f (range_with_len (a + 1) m)) in
    get_right (f a) (flat_map f (range_with_len (a + 1) n)) (length (flat_map f (range_with_len (a + 1) m)) + k) p y (omega arith)
    (flat_range f m n (a + 1) i k (length (flat_map f (range_with_len (a + 1) m)) + k) y (omega arith) (omega arith) refl h)

-- rows of one length, one behind the other
flat_grid : {A B : Type 0} (f : A → List B) (w : ℕ) (long : (x : A) → length (f x) ≡ w) (xs : List A) (m n p : ℕ) (x : A) (y : B) → slice_get xs m ≡ Some x → slice_get (f x) n ≡ Some y → p ≡ m * w + n → slice_get (flat_map f xs) p ≡ Some y
flat_grid f w long [] m n p x y h k e = absurd (some_none (sym h))
flat_grid f w long (z ∷ xs) zero n p x y h k e =
    let z' : 0 * w ≡ 0 = omega arith in let q : n ≡ p = omega arith in
    get_left (f z) (flat_map f xs) p y (subst (λ p. slice_get (f z) p ≡ Some y) q (subst (λ z. slice_get (f z) n ≡ Some y) (sym (some_same h)) k))
flat_grid f w long (z ∷ xs) (suc m) n p x y h k e =
    let l = long z in let s = suc-mul m w in
    get_right (f z) (flat_map f xs) (m * w + n) p y (omega arith) (flat_grid f w long xs m n (m * w + n) x y h k refl)

pub length-map : {A B : Type 0} (f : A → B) (xs : List A) → length (map f xs) ≡ length xs
length-map f [] = refl
length-map f (x ∷ xs) = ap suc (length-map f xs)

module _ (normal : NormalForm) (states : List Items) (op : ℕ) (below : op < most_operators) where
  placed : (kids k p : ℕ) (key : NodeKey) → kids_by normal.rules op ≡ Some kids → p ≡ key_start normal states op + k → slice_get (keys_with normal states op (Some kids)) k ≡ Some key → slice_get (all_keys normal states) p ≡ Some key
  placed kids k p key by e h =
      flat_range (keys_of normal states) op most_operators 0 op k p key below (omega arith) e
      (subst (λ o. slice_get (keys_with normal states op o) k ≡ Some key) (sym by) h)

  places : HasPlaces normal states op
  places = record {
    none = λ c class u h. placed 0 c (key_start normal states op + c) (key_of op class []) u refl (get_map (λ class. key_of op class []) (occurring normal.tests) c class h);
    one = λ m i u h. placed 1 m (key_start normal states op + m) (key_of op 0 (i ∷ [])) u refl (get_map (λ i. key_of op 0 (i ∷ [])) states m i h);
    two = λ m n i j u h k. placed 2 (m * length states + n) (key_start normal states op + (m * length states + n)) (key_of op 0 (i ∷ j ∷ [])) u refl
        (flat_grid (λ i. map (λ j. key_of op 0 (i ∷ j ∷ [])) states) (length states) (λ i. length-map (λ j. key_of op 0 (i ∷ j ∷ [])) states) states m n (m * length states + n) i (key_of op 0 (i ∷ j ∷ [])) h (get_map (λ j. key_of op 0 (i ∷ j ∷ [])) states n j k) refl);
  }

pub keys_have_places : KeysHavePlaces
keys_have_places normal states op below = places normal states op below
