-- Laws of the bounds of costs.
use Rattle.std.proofs.Common.{◌≡◌, ℕ, ◌+◌, ◌-◌, ◌<◌, ◌≤◌, ◌^◌, ◌⊎◌, inl, inr, arith, refl, ap, ◌∙◌, subst, min, Bool, true, false, ◌&&◌, ◌||◌, ◌==◌, ℤ, pos, negsuc, ◌+ℤ◌, ◌<ℤ◌, ◌≤ℤ◌, neg_ℤ}
use Rattle.std.specs.Int.{saturate_to_bits}
use Rattle.std.specs.Prelude.{nat_lt, int_lt}
use Rattle.std.proofs.lemmas.Int.{ints}
use Rattle.std.proofs.lemmas.Bool.Decides.{nat_tests}
use Rattle.sel_grammar.specs.Costs.{Cost, no_cost, ◌⊕◌, IsCheaper}
use Rattle.sel_grammar.proofs.CostLaws.{Nat, cheaper_trans, cheaper_same, same_cheaper, cheaper_not_both, cheaper_not_same, cheaper_or_not, right_cheaper, same_sums}
use Rattle.sel_plain.specs.CostBounds.{capped_sum, IsUpTo, IsNoDearer, is_dearer, from_least, cost_place}

-- sums
min_exact : (x y : ℕ) → x + y < 2 ^ 64 → min (x + y) (2 ^ 64 - 1) ≡ x + y
min_exact x y h = grind arith

saturate_exact : (z : ℤ) → pos 0 ≤ℤ z → z <ℤ pos (2 ^ 63) → saturate_to_bits 63 z ≡ z
saturate_exact (pos n) l h = let k : n < 2 ^ 63 = omega (arith, ints) in ap pos (fits n k)
  where
    fits : (n : ℕ) → n < 2 ^ 63 → min n (2 ^ 63 - 1) ≡ n
    fits n k = grind arith
saturate_exact (negsuc n) l h = absurd (omega (arith, ints))

z_low : (x y : ℤ) → pos 0 ≤ℤ x → pos 0 ≤ℤ y → pos 0 ≤ℤ (x +ℤ y)
z_low x y h k = omega (arith, ints)

z_high : (x y : ℤ) (m n : ℕ) → x ≤ℤ pos m → y ≤ℤ pos n → (x +ℤ y) ≤ℤ pos (m + n)
z_high x y m n h k = omega (arith, ints)

z_below : (x : ℤ) (m n : ℕ) → x ≤ℤ pos m → m < n → x <ℤ pos n
z_below x m n h k = omega (arith, ints)

z_wider : (x : ℤ) (m n : ℕ) → x ≤ℤ pos m → m ≤ n → x ≤ℤ pos n
z_wider x m n h k = omega (arith, ints)

pub IsUpTo-sum : (m n : ℕ) (a b : Cost) → IsUpTo m a → IsUpTo n b → IsUpTo (m + n) (a ⊕ b)
IsUpTo-sum m n a b h k = record {
  first = let x = h.first in let y = k.first in omega arith;
  low = z_low a.second b.second h.low k.low;
  high = z_high a.second b.second m n h.high k.high;
}

pub capped_exact : (m n : ℕ) (a b : Cost) → IsUpTo m a → IsUpTo n b → m + n < 2 ^ 63 → capped_sum a b ≡ a ⊕ b
capped_exact m n a b h k few =
    let x = h.first in
    let y = k.first in
    let s = IsUpTo-sum m n a b h k in
    λ i. record { first = min_exact a.first b.first (omega arith) i; second = saturate_exact (a.second +ℤ b.second) s.low (z_below (a.second +ℤ b.second) (m + n) (2 ^ 63) s.high few) i }

pub IsUpTo-wider : (m n : ℕ) (c : Cost) → m ≤ n → IsUpTo m c → IsUpTo n c
IsUpTo-wider m n c h k = record { first = let x = k.first in omega arith; low = k.low; high = z_wider c.second m n k.high h }

pub IsUpTo-none : (m : ℕ) → IsUpTo m no_cost
IsUpTo-none m = record { first = omega arith; low = omega (arith, ints); high = omega (arith, ints) }

pub IsUpTo-same : (m : ℕ) (a b : Cost) → a ≡ b → IsUpTo m a → IsUpTo m b
IsUpTo-same m a b q h = subst (λ x. IsUpTo m x) q h

pub Nat-up_to : (m : ℕ) (c : Cost) → IsUpTo m c → Nat c
Nat-up_to m c h = go c.second refl h.low
  where
    go : (z : ℤ) → c.second ≡ z → pos 0 ≤ℤ z → Nat c
    go (pos n) q l = record { number = n; is = q }
    go (negsuc n) q l = absurd (omega (arith, ints))

-- the order
or_tells : (x y : ℕ) (t : Bool) → (((nat_lt x y || ((x == y) && t)) ≡ true) × ((x < y) ⊎ ((x ≡ y) × (t ≡ true)))) ⊎ (((nat_lt x y || ((x == y) && t)) ≡ false) × ((y < x) ⊎ ((x ≡ y) × (t ≡ false))))
or_tells x y true = grind (arith, nat_tests)
or_tells x y false = grind (arith, nat_tests)

z_true : (x y : ℤ) → int_lt x y ≡ true → x <ℤ y
z_true x y h = grind (arith, ints)

z_false : (x y : ℤ) → int_lt x y ≡ false → x <ℤ y → ⊥
z_false x y h k = grind (arith, ints)

dearer_tells : (a b : Cost) → ((is_dearer a b ≡ true) × IsCheaper b a) ⊎ ((is_dearer a b ≡ false) × IsNoDearer a b)
dearer_tells a b = go (or_tells b.first a.first (int_lt b.second a.second))
  where
    no_dearer : (a.first < b.first) ⊎ ((b.first ≡ a.first) × (int_lt b.second a.second ≡ false)) → IsCheaper a b ⊎ ((a ≡ b) ⊎ IsCheaper b a) → IsNoDearer a b
    no_dearer h (inl k) = inr k
    no_dearer h (inr (inl k)) = inl k
    no_dearer (inl h) (inr (inr (inl k))) = absurd (omega arith)
    no_dearer (inl h) (inr (inr (inr k))) = let e = k.0 in absurd (omega arith)
    no_dearer (inr h) (inr (inr (inl k))) = let e = h.0 in absurd (omega arith)
    no_dearer (inr h) (inr (inr (inr k))) = absurd (z_false b.second a.second h.1 k.1)

    go : ((is_dearer a b ≡ true) × ((b.first < a.first) ⊎ ((b.first ≡ a.first) × (int_lt b.second a.second ≡ true)))) ⊎ ((is_dearer a b ≡ false) × ((a.first < b.first) ⊎ ((b.first ≡ a.first) × (int_lt b.second a.second ≡ false))))
        → ((is_dearer a b ≡ true) × IsCheaper b a) ⊎ ((is_dearer a b ≡ false) × IsNoDearer a b)
    go (inl (e, inl h)) = inl (e, inl h)
    go (inl (e, inr h)) = inl (e, inr (h.0, z_true b.second a.second h.1))
    go (inr (e, h)) = inr (e, no_dearer h (cheaper_or_not a b))

pub NoDearer-not : (a b : Cost) → IsNoDearer a b → IsCheaper b a → ⊥
NoDearer-not a b (inl h) k = cheaper_not_same b a k h
NoDearer-not a b (inr h) k = cheaper_not_both a b h k

pub dearer_true : (a b : Cost) → IsCheaper b a → is_dearer a b ≡ true
dearer_true a b h = go (dearer_tells a b)
  where
    go : ((is_dearer a b ≡ true) × IsCheaper b a) ⊎ ((is_dearer a b ≡ false) × IsNoDearer a b) → is_dearer a b ≡ true
    go (inl k) = k.0
    go (inr k) = absurd (NoDearer-not a b k.1 h)

pub dearer_false : (a b : Cost) → IsNoDearer a b → is_dearer a b ≡ false
dearer_false a b h = go (dearer_tells a b)
  where
    go : ((is_dearer a b ≡ true) × IsCheaper b a) ⊎ ((is_dearer a b ≡ false) × IsNoDearer a b) → is_dearer a b ≡ false
    go (inl k) = absurd (NoDearer-not a b h k.1)
    go (inr k) = k.0

pub dearer_or_not : (a b : Cost) → IsCheaper b a ⊎ IsNoDearer a b
dearer_or_not a b = go (dearer_tells a b)
  where
    go : ((is_dearer a b ≡ true) × IsCheaper b a) ⊎ ((is_dearer a b ≡ false) × IsNoDearer a b) → IsCheaper b a ⊎ IsNoDearer a b
    go (inl k) = inl k.1
    go (inr k) = inr k.1

pub NoDearer-trans : (a b c : Cost) → IsNoDearer a b → IsNoDearer b c → IsNoDearer a c
NoDearer-trans a b c (inl h) (inl k) = inl (h ∙ k)
NoDearer-trans a b c (inl h) (inr k) = inr (same_cheaper a b c h k)
NoDearer-trans a b c (inr h) (inl k) = inr (cheaper_same a b c h k)
NoDearer-trans a b c (inr h) (inr k) = inr (cheaper_trans a b c h k)

pub cheaper_no_dearer : (a b c : Cost) → IsCheaper a b → IsNoDearer b c → IsCheaper a c
cheaper_no_dearer a b c h (inl k) = cheaper_same a b c h k
cheaper_no_dearer a b c h (inr k) = cheaper_trans a b c h k

pub NoDearer-behind : (a b c : Cost) → IsNoDearer b c → IsNoDearer (a ⊕ b) (a ⊕ c)
NoDearer-behind a b c (inl h) = inl (same_sums a a b c refl h)
NoDearer-behind a b c (inr h) = inr (right_cheaper a a b c refl h)

-- places of costs
pub record IsIn64 (c : Cost) : Type 0 where
  pub first : c.first < 2 ^ 64
  pub low : neg_ℤ (pos (2 ^ 63)) ≤ℤ c.second
  pub high : c.second <ℤ pos (2 ^ 63)

pub IsIn64-capped : (a b : Cost) → IsIn64 (capped_sum a b)
IsIn64-capped a b = record { first = below (a.first + b.first); low = down (a.second +ℤ b.second); high = up (a.second +ℤ b.second) }
  where
    below : (x : ℕ) → min x (2 ^ 64 - 1) < 2 ^ 64
    below x = omega arith

    down : (z : ℤ) → neg_ℤ (pos (2 ^ 63)) ≤ℤ saturate_to_bits 63 z
    down (pos n) = omega (arith, ints)
    down (negsuc n) = omega (arith, ints)

    up : (z : ℤ) → saturate_to_bits 63 z <ℤ pos (2 ^ 63)
    up (pos n) = omega (arith, ints)
    up (negsuc n) = omega (arith, ints)

from_least_below : (z : ℤ) → z <ℤ pos (2 ^ 63) → from_least z < 2 ^ 64
from_least_below (pos n) h = omega (arith, ints)
from_least_below (negsuc n) h = omega arith

from_least_less : (x y : ℤ) → neg_ℤ (pos (2 ^ 63)) ≤ℤ x → x <ℤ y → from_least x < from_least y
from_least_less (pos m) (pos n) l h = omega (arith, ints)
from_least_less (pos m) (negsuc n) l h = absurd (omega (arith, ints))
from_least_less (negsuc m) (pos n) l h = omega (arith, ints)
from_least_less (negsuc m) (negsuc n) l h = omega (arith, ints)

pub cost_place_below : (c : Cost) → IsIn64 c → cost_place c < 2 ^ 128
cost_place_below c h = let x = from_least_below c.second h.high in let y = h.first in omega arith

pub cost_place_less : (a b : Cost) → IsIn64 a → IsCheaper a b → cost_place a < cost_place b
cost_place_less a b h (inl l) = let x = from_least_below a.second h.high in omega arith
cost_place_less a b h (inr l) = let e = l.0 in let x = from_least_less a.second b.second h.low l.1 in omega arith
