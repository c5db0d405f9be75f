-- Sums over lists, and how often a number stands in one.
use Rattle.std.specs.Prelude.{ℕ, ◌+◌, ◌==◌, cond, nat_lt, List, [], ◌∷◌}

-- f of each, added up
abbrev pub weigh : {A : Type 0} → (A → ℕ) → List A → ℕ
weigh f [] = 0
weigh f (x ∷ xs) = f x + weigh f xs

-- 1 where x is y
abbrev pub one_at : ℕ → ℕ → ℕ
one_at x y = cond (y == x) 1 0

-- how often x stands in the list
abbrev pub times : ℕ → List ℕ → ℕ
times x xs = weigh (one_at x) xs

-- 1 where x is below n
abbrev pub one_if_below : ℕ → ℕ → ℕ
one_if_below x n = cond (nat_lt x n) 1 0

-- 1 where x isn't below n
abbrev pub late_at : ℕ → ℕ → ℕ
late_at n x = cond (nat_lt x n) 0 1

-- how many numbers aren't below n
abbrev pub late_in : ℕ → List ℕ → ℕ
late_in n xs = weigh (late_at n) xs

-- the numbers below n, in their order
abbrev pub below : ℕ → List ℕ → List ℕ
below n [] = []
below n (x ∷ xs) = cond (nat_lt x n) (x ∷ below n xs) (below n xs)
