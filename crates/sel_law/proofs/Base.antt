-- Sums over lists, membership, and reads of a list of words.
use Rattle.std.proofs.Common.{◌≡◌, ◌≢◌, ◌⊎◌, ℕ, zero, suc, ◌+◌, ◌*◌, ◌<◌, ◌≤◌, List, [], ◌∷◌, ◌++◌, length, set, refl, sym, ap, ◌∙◌, subst, ⊎_elim, inl, inr, arith, mul-le-mul_right, suc-mul}
use Rattle.std.specs.Prelude.{slice_index}
use mathlib.Core.Option.{some, some-ne-none, some-injective}
use mathlib.Core.Logic.{dite}
use native.Mathlib.Decide.{ℕ_discrete}
use lib.ListN.{get_elem?}
use Rattle.atomic_table.proofs.Lists.{at_longer}
use Rattle.sel_law.specs.Words.{weigh, In, read}

module _ {A : Type 0} where
  pub weigh_append : (f : A → ℕ) (xs ys : List A) → weigh f (xs ++ ys) ≡ weigh f xs + weigh f ys
  weigh_append f [] ys = omega arith
  weigh_append f (x ∷ xs) ys = omega (arith, weigh_append f xs ys)

  pub weigh_set : (f : A → ℕ) (vs : List A) (i : ℕ) (v w : A) → get_elem? vs i ≡ some v → weigh f (set vs i w) + f v ≡ weigh f vs + f w
  weigh_set f [] i v w e = absurd (some-ne-none v (sym e))
  weigh_set f (x ∷ xs) zero v w e = let s : f x ≡ f v = ap f (some-injective x v e) in omega arith
  weigh_set f (x ∷ xs) (suc i) v w e = omega (arith, weigh_set f xs i v w e)

  pub weigh_le : (f g : A → ℕ) (vs : List A) → ((i : ℕ) (v : A) → get_elem? vs i ≡ some v → f v ≤ g v) → weigh f vs ≤ weigh g vs
  weigh_le f g [] h = omega arith
  weigh_le f g (x ∷ xs) h = let a : f x ≤ g x = h 0 x refl in let b = weigh_le f g xs (λ i v e. h (suc i) v e) in omega arith

  pub weigh_at : (f : A → ℕ) (vs : List A) (i : ℕ) (v : A) → get_elem? vs i ≡ some v → f v ≤ weigh f vs
  weigh_at f [] i v e = absurd (some-ne-none v (sym e))
  weigh_at f (x ∷ xs) zero v e = let s : f x ≡ f v = ap f (some-injective x v e) in omega arith
  weigh_at f (x ∷ xs) (suc i) v e = omega (arith, weigh_at f xs i v e)

  -- membership
  pub in_front : (x : A) (l m : List A) → In x l → In x (l ++ m)
  in_front x l m h = (h.0, at_longer l m h.0 x h.1)

  pub in_back : (x : A) (l m : List A) → In x m → In x (l ++ m)
  in_back x [] m h = h
  in_back x (y ∷ l) m h = let r = in_back x l m h in (suc r.0, r.1)

  pub in_split : (x : A) (l m : List A) → In x (l ++ m) → In x l ⊎ In x m
  in_split x [] m h = inr h
  in_split x (y ∷ l) m (zero, e) = inl (zero, e)
  in_split x (y ∷ l) m (suc k, e) = ⊎_elim (λ (t : In x l). inl (suc t.0, t.1)) (λ (t : In x m). inr t) (in_split x l m (k, e))

  pub in_nil : (x : A) → In x [] → ⊥
  in_nil x h = some-ne-none x (sym h.1)

  pub in_one : (x y : A) → In x (y ∷ []) → y ≡ x
  in_one x y (zero, e) = some-injective y x e
  in_one x y (suc k, e) = absurd (some-ne-none x (sym e))

  pub in_here : (x : A) (l : List A) → In x (x ∷ l)
  in_here x l = (zero, refl)

-- words
pub index_set : (ws : List ℕ) (i x : ℕ) → i < length ws → slice_index (set ws i x) i ≡ x
index_set [] i x h = absurd (omega arith)
index_set (w ∷ ws) zero x h = refl
index_set (w ∷ ws) (suc i) x h = index_set ws i x (omega arith)

pub index_else : (ws : List ℕ) (i j x : ℕ) → j ≢ i → slice_index (set ws i x) j ≡ slice_index ws j
index_else [] i j x n = refl
index_else (w ∷ ws) zero zero x n = absurd (n refl)
index_else (w ∷ ws) zero (suc j) x n = refl
index_else (w ∷ ws) (suc i) zero x n = refl
index_else (w ∷ ws) (suc i) (suc j) x n = index_else ws i j x (λ e. n (ap suc e))

pub set_same : (ws : List ℕ) (i x : ℕ) → slice_index ws i ≡ x → set ws i x ≡ ws
set_same [] i x e = refl
set_same (w ∷ ws) zero x e = λ k. sym e k ∷ ws
set_same (w ∷ ws) (suc i) x e = λ k. w ∷ set_same ws i x e k

pub read_same : (ws us : List ℕ) (b n : ℕ) → ((i : ℕ) → i < n → slice_index us (b + i) ≡ slice_index ws (b + i)) → read us b n ≡ read ws b n
read_same ws us b zero h = refl
read_same ws us b (suc n) h =
    let a : slice_index us b ≡ slice_index ws b = subst (λ k. slice_index us k ≡ slice_index ws k) (omega arith) (h 0 (omega arith)) in
    let r = read_same ws us (b + 1) n (λ i lt. subst (λ k. slice_index us k ≡ slice_index ws k) (omega arith) (h (i + 1) (omega arith))) in
    λ k. a k ∷ r k

pub read_at : (ws : List ℕ) (b n i : ℕ) → i < n → slice_index (read ws b n) i ≡ slice_index ws (b + i)
read_at ws b zero i h = absurd (omega arith)
read_at ws b (suc n) zero h = ap (slice_index ws) (omega arith)
read_at ws b (suc n) (suc i) h = read_at ws (b + 1) n i (omega arith) ∙ ap (slice_index ws) (omega arith)

pub length_read : (ws : List ℕ) (b n : ℕ) → length (read ws b n) ≡ n
length_read ws b zero = refl
length_read ws b (suc n) = omega (arith, length_read ws (b + 1) n)

-- a list that agrees with the words is what is read there
pub read_is : (ws : List ℕ) (b : ℕ) (c : List ℕ) (n : ℕ) → length c ≡ n → ((i : ℕ) → i < n → slice_index ws (b + i) ≡ slice_index c i) → read ws b n ≡ c
read_is ws b [] zero e h = refl
read_is ws b [] (suc n) e h = absurd (omega arith)
read_is ws b (x ∷ c) zero e h = absurd (omega arith)
read_is ws b (x ∷ c) (suc n) e h =
    let a : slice_index ws b ≡ x = ap (slice_index ws) (omega arith) ∙ h 0 (omega arith) in
    let r = read_is ws (b + 1) c n (omega arith) (λ i lt. ap (slice_index ws) (omega arith) ∙ h (suc i) (omega arith)) in
    λ k. a k ∷ r k

-- the sum over a stretch of words after one of them changed
pub weigh_read : (f : ℕ → ℕ) (ws : List ℕ) (b n j x : ℕ) → b ≤ j → j < b + n → j < length ws → weigh f (read (set ws j x) b n) + f (slice_index ws j) ≡ weigh f (read ws b n) + f x
weigh_read f ws b zero j x lo hi len = absurd (omega arith)
weigh_read f ws b (suc n) j x lo hi len = dite (ℕ_discrete b j)
    (λ same.
    let rest : read (set ws j x) (b + 1) n ≡ read ws (b + 1) n = read_same ws (set ws j x) (b + 1) n (λ i lt. index_else ws j (b + 1 + i) x (λ e. absurd (omega arith))) in
    let here : slice_index (set ws j x) b ≡ x = ap (slice_index (set ws j x)) same ∙ index_set ws j x len in
    let old : slice_index ws b ≡ slice_index ws j = ap (slice_index ws) same in
    let a = ap (weigh f) rest in let p : f (slice_index (set ws j x) b) ≡ f x = ap f here in let q : f (slice_index ws b) ≡ f (slice_index ws j) = ap f old in
    omega arith)
    (λ apart.
    let here : slice_index (set ws j x) b ≡ slice_index ws b = index_else ws j b x apart in
    let r = weigh_read f ws (b + 1) n j x (omega arith) (omega arith) len in
    let p : f (slice_index (set ws j x) b) ≡ f (slice_index ws b) = ap f here in
    omega arith)

-- two stretches of width n, one behind the other
pub stretches : (a b n : ℕ) → a < b → a * n + n ≤ b * n
stretches a b n h = let m : suc a * n ≤ b * n = mul-le-mul_right n h in omega (arith, suc-mul a n)
