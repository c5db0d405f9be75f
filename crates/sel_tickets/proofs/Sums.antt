-- Sums over lists, and lists that have each number below some n once.
use Rattle.std.proofs.Common.{◌≡◌, ℕ, zero, suc, ◌+◌, ◌<◌, ◌≤◌, List, [], ◌∷◌, ◌++◌, length, set, refl, sym, ap, ◌∙◌, arith}
use Rattle.std.specs.Prelude.{slice_index}
use Rattle.std.proofs.lemmas.Bool.Decides.{nat_tests}
use mathlib.Core.Option.{some, some-ne-none, some-injective}
use mathlib.Core.Logic.{dite}
use native.Mathlib.Decide.{ℕ_discrete, dec_lt}
use lib.ListN.{get_elem?}
use Rattle.sel_tickets.specs.Sums.{weigh, one_at, times, one_if_below, late_at, below}

module _ {A : Type 0} where
  pub weigh_append : (f : A → ℕ) (xs ys : List A) → weigh f (xs ++ ys) ≡ weigh f xs + weigh f ys
  weigh_append f [] ys = omega arith
  weigh_append f (x ∷ xs) ys = omega (arith, weigh_append f xs ys)

  pub weigh_set : (f : A → ℕ) (vs : List A) (i : ℕ) (v w : A) → get_elem? vs i ≡ some v → weigh f (set vs i w) + f v ≡ weigh f vs + f w
  weigh_set f [] i v w e = absurd (some-ne-none v (sym e))
  weigh_set f (x ∷ xs) zero v w e = let s : f x ≡ f v = ap f (some-injective x v e) in omega arith
  weigh_set f (x ∷ xs) (suc i) v w e = omega (arith, weigh_set f xs i v w e)

  pub weigh_le : (f g : A → ℕ) (vs : List A) → ((i : ℕ) (v : A) → get_elem? vs i ≡ some v → f v ≤ g v) → weigh f vs ≤ weigh g vs
  weigh_le f g [] h = omega arith
  weigh_le f g (x ∷ xs) h = let a : f x ≤ g x = h 0 x refl in let b = weigh_le f g xs (λ i v e. h (suc i) v e) in omega arith

  pub weigh_at : (f : A → ℕ) (vs : List A) (i : ℕ) (v : A) → get_elem? vs i ≡ some v → f v ≤ weigh f vs
  weigh_at f [] i v e = absurd (some-ne-none v (sym e))
  weigh_at f (x ∷ xs) zero v e = let s : f x ≡ f v = ap f (some-injective x v e) in omega arith
  weigh_at f (x ∷ xs) (suc i) v e = omega (arith, weigh_at f xs i v e)

-- f of each number below n, added up

abbrev pub upto : (ℕ → ℕ) → ℕ → ℕ
upto f zero = 0
upto f (suc n) = f n + upto f n

pub one_at_self : (x : ℕ) → one_at x x ≡ 1
one_at_self x = grind (arith, nat_tests)

take_out : (y : ℕ) (xs : List ℕ) → 1 ≤ times y xs → (ys : List ℕ) × ((h : ℕ → ℕ) → weigh h xs ≡ h y + weigh h ys)
take_out y [] e = absurd (omega arith)
take_out y (z ∷ zs) e = dite (ℕ_discrete z y)
    (λ same. (zs, λ h. ap (λ x. h x + weigh h zs) same))
    (λ other. let one : one_at y z ≡ 0 = grind (arith, nat_tests) in
    let r = take_out y zs (omega arith) in
    (z ∷ r.0, λ h. let s = r.1 h in omega arith))

pub exact : (n : ℕ) (xs : List ℕ) → ((x : ℕ) → times x xs ≡ one_if_below x n) → (h : ℕ → ℕ) → weigh h xs ≡ upto h n
exact zero [] e h = refl
exact zero (y ∷ ys) e h = let s = e y in let o = one_at_self y in let z : one_if_below y 0 ≡ 0 = grind (arith, nat_tests) in absurd (omega arith)
exact (suc n) xs e h =
    let here : one_if_below n (suc n) ≡ 1 = grind (arith, nat_tests) in
    let first = e n in
    let r = take_out n xs (omega arith) in
    let fewer : (x : ℕ) → times x r.0 ≡ one_if_below x n = λ x. (
    let a = e x in let b = r.1 (one_at x) in
    let c : one_if_below x (suc n) ≡ one_at x n + one_if_below x n = grind (arith, nat_tests) in
    omega arith) in
    let s = r.1 h in let t = exact n r.0 fewer h in omega arith

pub upto_late : (n m : ℕ) → m ≤ n + upto (late_at n) m
upto_late n zero = omega arith
upto_late n (suc m) = let s = upto_late n m in step n m (upto (late_at n) m) s
  where
    step : (n m u : ℕ) → m ≤ n + u → suc m ≤ n + (late_at n m + u)
    step n m u s = grind (arith, nat_tests)

pub upto_none : (n m : ℕ) → m ≤ n → upto (late_at n) m ≡ 0
upto_none n zero h = refl
upto_none n (suc m) h = step n m (upto (late_at n) m) (upto_none n m (omega arith)) h
  where
    step : (n m u : ℕ) → u ≡ 0 → suc m ≤ n → late_at n m + u ≡ 0
    step n m u s h = grind (arith, nat_tests)

pub word_at : (ws : List ℕ) (i x : ℕ) → get_elem? ws i ≡ some x → slice_index ws i ≡ x
word_at [] i x e = absurd (some-ne-none x (sym e))
word_at (w ∷ ws) zero x e = some-injective w x e
word_at (w ∷ ws) (suc i) x e = word_at ws i x e

late_self : (n x : ℕ) → x < n → (xs : List ℕ) → below n (x ∷ xs) ≡ x ∷ below n xs
late_self n x h xs = grind (arith, nat_tests)

late_other : (n x : ℕ) → n ≤ x → (xs : List ℕ) → below n (x ∷ xs) ≡ below n xs
late_other n x h xs = grind (arith, nat_tests)

pub below_append : (n : ℕ) (xs ys : List ℕ) → below n (xs ++ ys) ≡ below n xs ++ below n ys
below_append n [] ys = refl
below_append n (x ∷ xs) ys = dite (dec_lt x n)
    (λ h. late_self n x h (xs ++ ys) ∙ ap (λ l. x ∷ l) (below_append n xs ys) ∙ ap (λ l. l ++ below n ys) (sym (late_self n x h xs)))
    (λ no. late_other n x (omega arith) (xs ++ ys) ∙ below_append n xs ys ∙ ap (λ l. l ++ below n ys) (sym (late_other n x (omega arith) xs)))

pub below_short : (n : ℕ) (xs : List ℕ) → length (below n xs) ≤ length xs
below_short n [] = omega arith
below_short n (x ∷ xs) = let s = below_short n xs in dite (dec_lt x n)
    (λ h. let e = ap length (late_self n x h xs) in omega arith)
    (λ no. let e = ap length (late_other n x (omega arith) xs) in omega arith)

pub times_below : (n x : ℕ) → x < n → (xs : List ℕ) → times x (below n xs) ≡ times x xs
times_below n x h [] = refl
times_below n x h (y ∷ ys) = let s = times_below n x h ys in dite (dec_lt y n)
    (λ b. let e = ap (times x) (late_self n y b ys) in omega arith)
    (λ no. let e = ap (times x) (late_other n y (omega arith) ys) in let z : one_at x y ≡ 0 = grind (arith, nat_tests) in omega arith)

pub times_late : (n x : ℕ) → n ≤ x → (xs : List ℕ) → times x (below n xs) ≡ 0
times_late n x h [] = refl
times_late n x h (y ∷ ys) = let s = times_late n x h ys in dite (dec_lt y n)
    (λ b. let e = ap (times x) (late_self n y b ys) in let z : one_at x y ≡ 0 = grind (arith, nat_tests) in omega arith)
    (λ no. let e = ap (times x) (late_other n y (omega arith) ys) in omega arith)
