-- The places of a walk.
use Rattle.std.proofs.Common.{◌≡◌, ℕ, ◌+◌, ◌-◌, ◌*◌, ◌/◌, ◌%◌, ◌<◌, ap, ◌∙◌, arith, div-add-mod'}
use Rattle.std.proofs.lemmas.Nat.{mod-mul-add}
use mathlib.Core.Logic.{dite}
use native.Mathlib.Decide.{dec_lt}
use Rattle.sel_law.specs.Words.{walk}

pub walk_is : (m h d q r : ℕ) → h + d ≡ q * m + r → r < m → walk m h d ≡ r
walk_is m h d q r e lt = ap (λ k. k % m) e ∙ mod-mul-add q m r lt

pub walk_next : (m h d : ℕ) → walk m h d + 1 < m → walk m h (d + 1) ≡ walk m h d + 1
walk_next m h d lt = let p = div-add-mod' (h + d) m in let x : ℕ = (h + d) / m * m in let r : ℕ = (h + d) % m in let p' : x + r ≡ h + d = p in walk_is m h (d + 1) ((h + d) / m) (walk m h d + 1) (let e : h + (d + 1) ≡ x + (r + 1) = omega arith in e) lt

pub walk_around : (m h d : ℕ) → walk m h d + 1 ≡ m → walk m h (d + 1) ≡ 0
walk_around m h d e = let p = div-add-mod' (h + d) m in let x : ℕ = (h + d) / m * m in let r : ℕ = (h + d) % m in let p' : x + r ≡ h + d = p in
    walk_is m h (d + 1) ((h + d) / m + 1) 0 (let k : ((h + d) / m + 1) * m ≡ x + m = grind arith in let e' : r + 1 ≡ m = e in let goal : h + (d + 1) ≡ ((h + d) / m + 1) * m + 0 = omega arith in goal) (omega arith)

-- each place comes in the walk
pub walk_covers : (m h q : ℕ) → q < m → (j : ℕ) × (j < m) × (walk m h j ≡ q)
walk_covers m h q lt =
    let p = div-add-mod' h m in let x : ℕ = h / m * m in let r : ℕ = h % m in let p' : x + r ≡ h = p in
    let small : r < m = omega arith in
    dite (dec_lt q r)
    (λ before. (m + q - r, omega arith, walk_is m h (m + q - r) (h / m + 1) q (let k : (h / m + 1) * m ≡ x + m = grind arith in let goal : h + (m + q - r) ≡ (h / m + 1) * m + q = omega arith in goal) lt))
    (λ no. (q - r, omega arith, walk_is m h (q - r) (h / m) q (let goal : h + (q - r) ≡ x + q = omega arith in goal) lt))
