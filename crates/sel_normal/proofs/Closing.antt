-- Walks of free chain rules, found by letting them go through one nonterminal after another.
use Rattle.std.proofs.Common.{◌≡◌, ℕ, zero, suc, ◌+◌, ◌<◌, ◌≤◌, ◌⊎◌, inl, inr, refl, ap, sym, ◌∙◌, subst, arith}
use Rattle.std.specs.Prelude.{◌↔◌}
use Rattle.sel_grammar.specs.declared.grammar.Grammar.{Grammar}
use Rattle.sel_grammar.specs.Chains.{IsFreeStep, FreeWalk, last, step}

pub walks_on : {g : Grammar} {n m k : ℕ} → FreeWalk g n m → FreeWalk g m k → FreeWalk g n k
walks_on (last s) w = step s w
walks_on (step s v) w = step s (walks_on v w)

-- L holds of free steps, and of walks through nonterminals below k
pub record IsReach (g : Grammar) (k : ℕ) (L : ℕ → ℕ → Type 0) : Type 0 where
  pub sound : (n m : ℕ) → L n m → FreeWalk g n m
  pub steps : (r n m : ℕ) → IsFreeStep g r n m → L n m
  pub closed : (c n m : ℕ) → c < k → L n c → L c m → L n m

below_or_at : (c k : ℕ) → c < k + 1 → (c < k) ⊎ (c ≡ k)
below_or_at c k h = grind arith

-- one nonterminal more to go through
pub reach_more : (g : Grammar) (k : ℕ) (L M : ℕ → ℕ → Type 0) → IsReach g k L → ((n m : ℕ) → M n m ↔ (L n m ⊎ (L n k × L k m))) → IsReach g (k + 1) M
reach_more g k L M h says = record {
  sound = λ n m q. sound n m ((says n m).0 q);
  steps = λ r n m s. (says n m).1 (inl (h.steps r n m s));
  closed = λ c n m below p q. closed c n m (below_or_at c k below) ((says n c).0 p) ((says c m).0 q);
}
  where
    sound : (n m : ℕ) → L n m ⊎ (L n k × L k m) → FreeWalk g n m
    sound n m (inl q) = h.sound n m q
    sound n m (inr q) = walks_on (h.sound n k q.0) (h.sound k m q.1)

    -- through k at most once
    to : (c n : ℕ) → c ≡ k → L n c ⊎ (L n k × L k c) → L n k
    to c n e (inl p) = subst (λ x. L n x) e p
    to c n e (inr p) = p.0

    from : (c m : ℕ) → c ≡ k → L c m ⊎ (L c k × L k m) → L k m
    from c m e (inl q) = subst (λ x. L x m) e q
    from c m e (inr q) = q.1

    closed : (c n m : ℕ) → (c < k) ⊎ (c ≡ k) → L n c ⊎ (L n k × L k c) → L c m ⊎ (L c k × L k m) → M n m
    closed c n m (inr e) p q = (says n m).1 (inr (to c n e p, from c m e q))
    closed c n m (inl b) (inl p) (inl q) = (says n m).1 (inl (h.closed c n m b p q))
    closed c n m (inl b) (inl p) (inr q) = (says n m).1 (inr (h.closed c n k b p q.0, q.1))
    closed c n m (inl b) (inr p) (inl q) = (says n m).1 (inr (p.0, h.closed c k m b p.1 q))
    closed c n m (inl b) (inr p) (inr q) = (says n m).1 (inr (p.0, q.1))

-- where each step's left side was gone through, all walks are found
pub reach_all : (g : Grammar) (k : ℕ) (L : ℕ → ℕ → Type 0) → IsReach g k L → ((r n m : ℕ) → IsFreeStep g r n m → n < k) → (n m : ℕ) → L n m ↔ FreeWalk g n m
reach_all g k L h left n m = (h.sound n m, found n m)
  where
    starts : (n m : ℕ) → FreeWalk g n m → n < k
    starts n m (last {r} s) = left r n m s
    starts n m (step {r} {m = x} s w) = left r n x s

    found : (n m : ℕ) → FreeWalk g n m → L n m
    found n m (last {r} s) = h.steps r n m s
    found n m (step {r} {m = x} s w) = h.closed x n m (starts x m w) (h.steps r n x s) (found x m w)

-- steps alone go through no nonterminal
pub reach_first : (g : Grammar) (O L : ℕ → ℕ → Type 0) → ((n m : ℕ) → O n m → ⊥) → ((n m : ℕ) → L n m ↔ (O n m ⊎ ((r : ℕ) × IsFreeStep g r n m))) → IsReach g 0 L
reach_first g O L empty says = record {
  sound = λ n m q. sound n m ((says n m).0 q);
  steps = λ r n m s. (says n m).1 (inr (r, s));
  closed = λ c n m below p q. absurd (omega arith);
}
  where
    sound : (n m : ℕ) → O n m ⊎ ((r : ℕ) × IsFreeStep g r n m) → FreeWalk g n m
    sound n m (inl o) = absurd (empty n m o)
    sound n m (inr (r, s)) = last s
