-- Sets of rules that are used, and how many are not.
use Rattle.std.proofs.Common.{◌≡◌, ℕ, zero, suc, ◌+◌, ◌<◌, ◌≤◌, ◌⊎◌, inl, inr, refl, ap, ◌∙◌, Bool, true, false, ◌||◌, ◌==◌, arith}
use Rattle.std.proofs.lemmas.Bool.{eq-eqb, eqb-true}

-- rules that are used
abbrev pub Used : Type 0
Used = ℕ → Bool

abbrev pub none_used : Used
none_used r = false

abbrev pub with_rule : ℕ → Used → Used
with_rule r s x = (x == r) || s x

pub same_or_not : (x y : ℕ) → (x ≡ y) ⊎ ¬ (x ≡ y)
same_or_not x y = grind arith

false_or : (a b : Bool) → ¬ (a ≡ true) → b ≡ false → (a || b) ≡ false
false_or true b h k = absurd (h refl)
false_or false b h k = k

pub true_or : (a b : Bool) → (a || b) ≡ true → (a ≡ true) ⊎ (b ≡ true)
true_or true b h = inl refl
true_or false b h = inr h

or_true : (a b : Bool) → (a ≡ true) ⊎ (b ≡ true) → (a || b) ≡ true
or_true true b h = refl
or_true false b (inl h) = cc
or_true false b (inr h) = h

pub with_other : (r q : ℕ) (s : Used) → ¬ (q ≡ r) → s q ≡ false → with_rule r s q ≡ false
with_other r q s h k = false_or (q == r) (s q) (λ e. h (eqb-true q r e)) k

pub with_more : (r : ℕ) (s : Used) (x : ℕ) → s x ≡ true → with_rule r s x ≡ true
with_more r s x h = or_true (x == r) (s x) (inr h)

pub with_both : (r : ℕ) (s s' : Used) → ((x : ℕ) → s x ≡ true → s' x ≡ true) → (x : ℕ) → with_rule r s x ≡ true → with_rule r s' x ≡ true
with_both r s s' f x h = go (true_or (x == r) (s x) h)
  where
    go : ((x == r) ≡ true) ⊎ (s x ≡ true) → with_rule r s' x ≡ true
    go (inl e) = or_true (x == r) (s' x) (inl e)
    go (inr e) = or_true (x == r) (s' x) (inr (f x e))

pub with_swap : (r q : ℕ) (s : Used) (x : ℕ) → with_rule q (with_rule r s) x ≡ true → with_rule r (with_rule q s) x ≡ true
with_swap r q s x h = go (true_or (x == q) (with_rule r s x) h)
  where
    inner : ((x == r) ≡ true) ⊎ (s x ≡ true) → with_rule r (with_rule q s) x ≡ true
    inner (inl e) = or_true (x == r) (with_rule q s x) (inl e)
    inner (inr e) = or_true (x == r) (with_rule q s x) (inr (with_more q s x e))

    go : ((x == q) ≡ true) ⊎ (with_rule r s x ≡ true) → with_rule r (with_rule q s) x ≡ true
    go (inl e) = or_true (x == r) (with_rule q s x) (inr (or_true (x == q) (s x) (inl e)))
    go (inr e) = inner (true_or (x == r) (s x) e)

pub not_both : (b : Bool) → b ≡ true → b ≡ false → ⊥
not_both b h k = cc

pub unused_where_more : (a b : Bool) → (a ≡ true → b ≡ true) → b ≡ false → a ≡ false
unused_where_more true b f h = absurd (not_both b (f refl) h)
unused_where_more false b f h = refl

-- how many of the rules below a number are not used
slot : Bool → ℕ
slot true = 0
slot false = 1

pub unused : ℕ → Used → ℕ
unused zero s = 0
unused (suc k) s = slot (s k) + unused k s

slot_more : (a b : Bool) → (a ≡ true → b ≡ true) → slot b ≤ slot a
unfolding slot
slot_more true true f = omega arith
slot_more true false f = absurd (not_both false (f refl) refl)
slot_more false true f = omega arith
slot_more false false f = omega arith

unused_more : (k r : ℕ) (s : Used) → unused k (with_rule r s) ≤ unused k s
unfolding unused
unused_more zero r s = omega arith
unused_more (suc k) r s = let a = slot_more (s k) (with_rule r s k) (with_more r s k) in let b = unused_more k r s in omega arith

slot_used : (b : Bool) → b ≡ true → slot b ≡ 0
unfolding slot
slot_used true h = refl
slot_used false h = cc

slot_unused : (b : Bool) → b ≡ false → slot b ≡ 1
unfolding slot
slot_unused true h = cc
slot_unused false h = refl

pub unused_less : (k r : ℕ) (s : Used) → s r ≡ false → r < k → unused k (with_rule r s) < unused k s
unfolding unused
unused_less zero r s u h = absurd (omega arith)
unused_less (suc k) r s u h = go (same_or_not k r) (λ h. unused_less k r s u h)
  where
    go : (k ≡ r) ⊎ ¬ (k ≡ r) → (r < k → unused k (with_rule r s) < unused k s) → slot (with_rule r s k) + unused k (with_rule r s) < slot (s k) + unused k s
    go (inl e) rec =
        let a = slot_used (with_rule r s k) (or_true (k == r) (s k) (inl (eq-eqb k r e))) in
        let b = slot_unused (s k) (ap s e ∙ u) in
        let c = unused_more k r s in omega arith
    go (inr e) rec = let a = slot_more (s k) (with_rule r s k) (with_more r s k) in let b = rec (omega arith) in omega arith

-- no more than there are
pub unused_le : (k : ℕ) (s : Used) → unused k s ≤ k
unfolding unused slot
unused_le zero s = omega arith
unused_le (suc k) s = let a = slot_le (s k) in let b = unused_le k s in omega arith
  where
    slot_le : (b : Bool) → slot b ≤ 1
    slot_le true = omega arith
    slot_le false = omega arith
