-- How many steps a walk takes: so many looks, each of at most so many steps.
use Rattle.std.proofs.Common.{◌≡◌, ℕ, zero, suc, ◌+◌, ◌-◌, ◌*◌, ◌<◌, ◌≤◌, ap, ◌∙◌, arith}
use Rattle.std.proofs.Math.Nat.{suc-mul, mul-le-mul_right}

one_more : (k n : ℕ) → (k + 1) * n ≡ k * n + n
one_more k n = (let e : k + 1 ≡ suc k = omega arith in ap (λ j. j * n) e) ∙ suc-mul k n

-- one look more
pub look_on : (u v y k n : ℕ) → v ≤ u + k * n → y ≤ v + n → y ≤ u + (k + 1) * n
look_on u v y k n e d = let m = one_more k n in omega arith

-- a look that is one of m
pub look_within : (u v y k n m : ℕ) → v ≤ u + k * n → k < m → y ≤ v + n → y ≤ u + m * n
look_within u v y k n m e lt d =
    let a = look_on u v y k n e d in
    let le : k + 1 ≤ m = omega arith in
    let b = mul-le-mul_right n le in
    omega arith

-- of the looks that are left, one is taken
pub look_off : (v y k n total : ℕ) → v + k * n ≤ total → 0 < k → y ≤ v + n → y + (k - 1) * n ≤ total
look_off v y zero n total e lt d = absurd (omega arith)
look_off v y (suc k) n total e lt d =
    let m = suc-mul k n in
    let p : suc k - 1 ≡ k = omega arith in
    let q : (suc k - 1) * n ≡ k * n = ap (λ j. j * n) p in
    omega arith

-- and it is within all
pub look_last : (v y k n total : ℕ) → v + k * n ≤ total → 0 < k → y ≤ v + n → y ≤ total
look_last v y k n total e lt d = let a = look_off v y k n total e lt d in omega arith
