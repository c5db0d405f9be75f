-- All that proofs know of costs.
use Rattle.std.proofs.Common.{◌≡◌, ℕ, ◌+◌, ◌<◌, ◌≤◌, ◌⊎◌, inl, inr, arith, refl, ap, sym, ◌∙◌, subst, ℤ, pos, ◌+ℤ◌, ◌<ℤ◌, ◌≤ℤ◌}
use Rattle.std.specs.Prelude.{nat_abs}
use Rattle.std.proofs.lemmas.Int.{ints, by_lt_z}
use Rattle.sel_base.specs.declared.pair.Pair.{Pair}
use Rattle.sel_grammar.specs.declared.grammar.RuleCost.{RuleCost}
use Rattle.sel_grammar.specs.Costs.{Cost, no_cost, ◌⊕◌, IsCheaper, paid}

firsts : (a b : Cost) → a ≡ b → (a.first ≡ b.first) × (a.second ≡ b.second)
firsts a b h = (ap (λ (c : Cost). c.first) h, ap (λ (c : Cost). c.second) h)

made : (a b : Cost) → a.first ≡ b.first → a.second ≡ b.second → a ≡ b
made a b h k = λ i. record { first = h i; second = k i }

lt_sums : (x y z w : ℤ) → x <ℤ y → z <ℤ w → (x +ℤ z) <ℤ (y +ℤ w)
lt_sums x y z w h k = omega (arith, ints)

lt_same : (x y z : ℤ) → x <ℤ y → (x +ℤ z) <ℤ (y +ℤ z)
lt_same x y z h = omega (arith, ints)

same_lt : (x z w : ℤ) → z <ℤ w → (x +ℤ z) <ℤ (x +ℤ w)
same_lt x z w h = omega (arith, ints)

pub both_cheaper : (a b c d : Cost) → IsCheaper a b → IsCheaper c d → IsCheaper (a ⊕ c) (b ⊕ d)
both_cheaper a b c d (inl h) (inl k) = inl (omega arith)
both_cheaper a b c d (inl h) (inr k) = inl (let e = k.0 in omega arith)
both_cheaper a b c d (inr h) (inl k) = inl (let e = h.0 in omega arith)
both_cheaper a b c d (inr h) (inr k) = inr (let e = h.0 in let f = k.0 in omega arith, lt_sums a.second b.second c.second d.second h.1 k.1)

pub left_cheaper : (a b c d : Cost) → IsCheaper a b → c ≡ d → IsCheaper (a ⊕ c) (b ⊕ d)
left_cheaper a b c d h k = subst (λ x. IsCheaper (a ⊕ c) (b ⊕ x)) k (go h)
  where
    go : IsCheaper a b → IsCheaper (a ⊕ c) (b ⊕ c)
    go (inl l) = inl (omega arith)
    go (inr l) = inr (let e = l.0 in omega arith, lt_same a.second b.second c.second l.1)

pub right_cheaper : (a b c d : Cost) → a ≡ b → IsCheaper c d → IsCheaper (a ⊕ c) (b ⊕ d)
right_cheaper a b c d h k = subst (λ x. IsCheaper (a ⊕ c) (x ⊕ d)) h (go k)
  where
    go : IsCheaper c d → IsCheaper (a ⊕ c) (a ⊕ d)
    go (inl l) = inl (omega arith)
    go (inr l) = inr (let e = l.0 in omega arith, same_lt a.second c.second d.second l.1)

lt_trans : (x y z : ℤ) → x <ℤ y → y <ℤ z → x <ℤ z
lt_trans x y z h k = omega (arith, ints)

pub cheaper_trans : (a b c : Cost) → IsCheaper a b → IsCheaper b c → IsCheaper a c
cheaper_trans a b c (inl h) (inl k) = inl (omega arith)
cheaper_trans a b c (inl h) (inr k) = inl (let e = k.0 in omega arith)
cheaper_trans a b c (inr h) (inl k) = inl (let e = h.0 in omega arith)
cheaper_trans a b c (inr h) (inr k) = inr (h.0 ∙ k.0, lt_trans a.second b.second c.second h.1 k.1)

pub cheaper_same : (a b c : Cost) → IsCheaper a b → b ≡ c → IsCheaper a c
cheaper_same a b c h k = subst (IsCheaper a) k h

pub same_cheaper : (a b c : Cost) → a ≡ b → IsCheaper b c → IsCheaper a c
same_cheaper a b c h k = subst (λ x. IsCheaper x c) (sym h) k

pub same_sums : (a b c d : Cost) → a ≡ b → c ≡ d → a ⊕ c ≡ b ⊕ d
same_sums a b c d h k = λ i. h i ⊕ k i

z_none : (x : ℤ) → x ≡ x +ℤ pos 0
z_none x = omega (arith, ints)

pub sum_none : (a : Cost) → a ≡ a ⊕ no_cost
sum_none a = made a (a ⊕ no_cost) (omega arith) (z_none a.second)

z_same_or_not : (x y : ℤ) → (x ≡ y) ⊎ ¬ (x ≡ y)
z_same_or_not x y = by_lt_z x y (λ h. inr (λ e. absurd (omega (arith, ints)))) (λ h. by_lt_z y x (λ k. inr (λ e. absurd (omega (arith, ints)))) (λ k. inl (omega (arith, ints))))

pub cost_same_or_not : (a b : Cost) → (a ≡ b) ⊎ ¬ (a ≡ b)
cost_same_or_not a b = go (nat a.first b.first) (z_same_or_not a.second b.second)
  where
    nat : (x y : ℕ) → (x ≡ y) ⊎ ¬ (x ≡ y)
    nat x y = grind arith

    go : (a.first ≡ b.first) ⊎ ¬ (a.first ≡ b.first) → (a.second ≡ b.second) ⊎ ¬ (a.second ≡ b.second) → (a ≡ b) ⊎ ¬ (a ≡ b)
    go (inl h) (inl k) = inl (made a b h k)
    go (inr h) k = inr (λ q. h (firsts a b q).0)
    go (inl h) (inr k) = inr (λ q. k (firsts a b q).1)

lt_not_both : (x y : ℤ) → x <ℤ y → y <ℤ x → ⊥
lt_not_both x y h k = absurd (omega (arith, ints))

lt_not_same : (x y : ℤ) → x <ℤ y → y ≡ x → ⊥
lt_not_same x y h k = absurd (omega (arith, ints))

pub cheaper_not_both : (a b : Cost) → IsCheaper a b → IsCheaper b a → ⊥
cheaper_not_both a b (inl h) (inl k) = absurd (omega arith)
cheaper_not_both a b (inl h) (inr k) = let e = k.0 in absurd (omega arith)
cheaper_not_both a b (inr h) (inl k) = let e = h.0 in absurd (omega arith)
cheaper_not_both a b (inr h) (inr k) = lt_not_both a.second b.second h.1 k.1

pub cheaper_not_same : (a b : Cost) → IsCheaper a b → b ≡ a → ⊥
cheaper_not_same a b (inl h) k = let f = (firsts b a k).0 in absurd (omega arith)
cheaper_not_same a b (inr h) k = lt_not_same a.second b.second h.1 (firsts b a k).1

z_comm : (x y : ℤ) → x +ℤ y ≡ y +ℤ x
z_comm x y = omega (arith, ints)

z_assoc : (x y z : ℤ) → (x +ℤ y) +ℤ z ≡ x +ℤ (y +ℤ z)
z_assoc x y z = omega (arith, ints)

pub sum_comm : (a b : Cost) → a ⊕ b ≡ b ⊕ a
sum_comm a b = made (a ⊕ b) (b ⊕ a) (omega arith) (z_comm a.second b.second)

pub sum_assoc : (a b c : Cost) → (a ⊕ b) ⊕ c ≡ a ⊕ (b ⊕ c)
sum_assoc a b c = made ((a ⊕ b) ⊕ c) (a ⊕ (b ⊕ c)) (omega arith) (z_assoc a.second b.second c.second)

-- of two costs one is cheaper, or they are the same
pub cheaper_or_not : (a b : Cost) → IsCheaper a b ⊎ ((a ≡ b) ⊎ IsCheaper b a)
cheaper_or_not a b = go (three a.first b.first) (z_three a.second b.second)
  where
    three : (x y : ℕ) → (x < y) ⊎ ((x ≡ y) ⊎ (y < x))
    three x y = grind arith

    z_three : (x y : ℤ) → (x <ℤ y) ⊎ ((x ≡ y) ⊎ (y <ℤ x))
    z_three x y = by_lt_z x y (λ h. inl h) (λ h. by_lt_z y x (λ k. inr (inr k)) (λ k. inr (inl (omega (arith, ints)))))

    go : (a.first < b.first) ⊎ ((a.first ≡ b.first) ⊎ (b.first < a.first)) → (a.second <ℤ b.second) ⊎ ((a.second ≡ b.second) ⊎ (b.second <ℤ a.second)) → IsCheaper a b ⊎ ((a ≡ b) ⊎ IsCheaper b a)
    go (inl h) k = inl (inl h)
    go (inr (inr h)) k = inr (inr (inl h))
    go (inr (inl h)) (inl k) = inl (inr (h, k))
    go (inr (inl h)) (inr (inl k)) = inr (inl (made a b h k))
    go (inr (inl h)) (inr (inr k)) = inr (inr (inr (sym h, k)))

-- what a rule costs: nothing, or more than nothing in one part and no less in the other
pub free_or_not : (c : RuleCost) → (paid c ≡ no_cost) ⊎ (1 ≤ c.first + c.second)
free_or_not c = go (zero_or_more c.first) (zero_or_more c.second)
  where
    zero_or_more : (x : ℕ) → (x ≡ 0) ⊎ (1 ≤ x)
    zero_or_more x = grind arith

    go : (c.first ≡ 0) ⊎ (1 ≤ c.first) → (c.second ≡ 0) ⊎ (1 ≤ c.second) → (paid c ≡ no_cost) ⊎ (1 ≤ c.first + c.second)
    go (inl h) (inl k) = inl (made (paid c) no_cost h (ap pos k))
    go (inr h) k = inr (omega arith)
    go (inl h) (inr k) = inr (omega arith)

-- sums of pairs whose second numbers are no less than 0
pub record Nat (c : Cost) : Type 0 where
  pub number : ℕ
  pub is : c.second ≡ pos number

z_four : (x y z w : ℤ) → (x +ℤ y) +ℤ (z +ℤ w) ≡ (x +ℤ z) +ℤ (y +ℤ w)
z_four x y z w = omega (arith, ints)

pub sum_four : (a b c d : Cost) → (a ⊕ b) ⊕ (c ⊕ d) ≡ (a ⊕ c) ⊕ (b ⊕ d)
sum_four a b c d = made ((a ⊕ b) ⊕ (c ⊕ d)) ((a ⊕ c) ⊕ (b ⊕ d)) (omega arith) (z_four a.second b.second c.second d.second)

z_swap : (x y z : ℤ) → x +ℤ (y +ℤ z) ≡ y +ℤ (x +ℤ z)
z_swap x y z = omega (arith, ints)

pub sum_swap : (a b c : Cost) → a ⊕ (b ⊕ c) ≡ b ⊕ (a ⊕ c)
sum_swap a b c = made (a ⊕ (b ⊕ c)) (b ⊕ (a ⊕ c)) (omega arith) (z_swap a.second b.second c.second)

pub Nat-sum : (a b : Cost) → Nat a → Nat b → Nat (a ⊕ b)
Nat-sum a b h k = record { number = h.number + k.number; is = λ i. h.is i +ℤ k.is i }

pub Nat-paid : (c : RuleCost) → Nat (paid c)
Nat-paid c = record { number = c.second; is = refl }

pub Nat-none : Nat no_cost
Nat-none = record { number = 0; is = refl }

-- both numbers of a pair that is no less than nothing, put together
abbrev pub weight : Cost → ℕ
weight c = c.first + nat_abs c.second

pub weight-paid : (c : RuleCost) (a : Cost) → Nat a → weight (paid c ⊕ a) ≡ c.first + c.second + weight a
weight-paid c a h =
    let x : nat_abs (pos c.second +ℤ a.second) ≡ c.second + h.number = ap (λ z. nat_abs (pos c.second +ℤ z)) h.is in
    let y : nat_abs a.second ≡ h.number = ap nat_abs h.is in
    omega arith

z_same : (x y : ℤ) → x +ℤ y ≡ x → y ≡ pos 0
z_same x y h = omega (arith, ints)

pub sum_same : (a b : Cost) → a ⊕ b ≡ a → b ≡ no_cost
sum_same a b h = let f = firsts (a ⊕ b) a h in let e = f.0 in made b no_cost (omega arith) (z_same a.second b.second f.1)

-- a rule's cost makes no sum less
pub paid_more : (c : RuleCost) (a : Cost) → (a ≡ paid c ⊕ a) ⊎ IsCheaper a (paid c ⊕ a)
paid_more c a = go (zero_or_more c.first) (zero_or_more c.second)
  where
    zero_or_more : (x : ℕ) → (x ≡ 0) ⊎ (1 ≤ x)
    zero_or_more x = grind arith

    more : (n : ℕ) (x : ℤ) → 1 ≤ n → x <ℤ (pos n +ℤ x)
    more n x h = omega (arith, ints)

    none : (n : ℕ) (x : ℤ) → n ≡ 0 → x ≡ pos n +ℤ x
    none n x h = omega (arith, ints)

    go : (c.first ≡ 0) ⊎ (1 ≤ c.first) → (c.second ≡ 0) ⊎ (1 ≤ c.second) → (a ≡ paid c ⊕ a) ⊎ IsCheaper a (paid c ⊕ a)
    go (inl h) (inl k) = inl (made a (paid c ⊕ a) (omega arith) (none c.second a.second k))
    go (inr h) k = inr (inl (omega arith))
    go (inl h) (inr k) = inr (inr (omega arith, more c.second a.second k))

pub sum_before : (a : Cost) → a ≡ no_cost ⊕ a
sum_before a = sum_none a ∙ sum_comm a no_cost
