-- A normal form is accepted or at fault: where free chain rules lead can be decided.
use Rattle.std.proofs.Common.{◌≡◌, ℕ, zero, suc, ◌+◌, ◌<◌, ◌≤◌, ◌⊎◌, inl, inr, Option, Some, None, List, [], ◌∷◌, length, refl, ap, sym, ◌∙◌, subst, slice_get, arith, add-one}
use Rattle.std.proofs.lemmas.Option.{slice_get_within}
use Rattle.sel_grammar.specs.declared.grammar.Grammar.{Grammar}
use Rattle.sel_grammar.specs.declared.grammar.Rule.{Rule}
use Rattle.sel_grammar.specs.declared.grammar.Pattern.{Pattern, Leaf, Nullary, Unary', Binary'}
use Rattle.sel_grammar.specs.declared.refusal.GrammarFault.{GrammarFault}
use Rattle.sel_grammar.specs.Chains.{IsFreeStep, FreeWalk}
use Rattle.sel_grammar.specs.Costs.{no_cost, price}
use Rattle.sel_grammar.specs.Fits.{rule_at}
use Rattle.sel_grammar.specs.Lawful.{IsLawful}
use Rattle.sel_grammar.specs.Limits.{most_normal_nonterminals, too_many, zero_cycle}
use Rattle.sel_grammar.proofs.CostLaws.{cost_same_or_not}
use Rattle.sel_normal.specs.NormalFaults.{nonterminals_to, HasFew, IsNormalFault, IsAccepted}
use Rattle.sel_normal.specs.Reach.{IsFreeChain}
use Rattle.sel_normal.specs.Laws.{AcceptedOrFault}
use Rattle.sel_normal.proofs.Bits.{same_or_not, below_or_not}
use Rattle.sel_normal.proofs.Closing.{IsReach, reach_more, reach_first, reach_all}
use Rattle.sel_normal.proofs.Faulty.{AreFewTo, few_none, few_more, nonterminals_all, too_many_at, AreFreeTo, free_none, free_more, free_all, zero_cycle_at, LeadsBack, up_to}
use Rattle.sel_normal.proofs.Steps.{some_same, some_none, step_left, within_rules}

abbrev Decided : Type 0 → Type 0
Decided A = A ⊎ (A → ⊥)

leaf_same : {n m : ℕ} → Leaf n ≡ Leaf m → n ≡ m
leaf_same h = cc

leaf_or_not : (p : Pattern) (m : ℕ) → Decided (p ≡ Leaf m)
leaf_or_not (Leaf n) m = go (same_or_not n m)
  where
    go : Decided (n ≡ m) → Decided (Leaf n ≡ Leaf m)
    go (inl e) = inl (ap Leaf e)
    go (inr d) = inr (λ h. d (leaf_same h))
leaf_or_not (Nullary op) m = inr (λ h. cc)
leaf_or_not (Unary' op s p) m = inr (λ h. cc)
leaf_or_not (Binary' op s p s' q) m = inr (λ h. cc)

chain_or_not : (rule : Rule) (m : ℕ) → Decided (IsFreeChain rule m)
chain_or_not rule m = go (leaf_or_not rule.pattern m) (cost_same_or_not (price rule) no_cost)
  where
    go : Decided (rule.pattern ≡ Leaf m) → Decided (price rule ≡ no_cost) → Decided (IsFreeChain rule m)
    go (inl h) (inl k) = inl (h, k)
    go (inr h) k = inr (λ c. h c.0)
    go (inl h) (inr k) = inr (λ c. k c.1)

module _ (g : Grammar) where
  -- the rule at the place k is such a step
  here_or_not : (k n m : ℕ) (o : Option Rule) → slice_get g.rules k ≡ o → Decided (IsFreeStep g (suc k) n m)
  here_or_not k n m None at = inr (λ s. some_none (sym s.numbered ∙ at))
  here_or_not k n m (Some rule) at = go (same_or_not rule.left n) (chain_or_not rule m)
    where
      same : (s : IsFreeStep g (suc k) n m) → s.rule ≡ rule
      same s = some_same (sym s.numbered ∙ at)

      go : Decided (rule.left ≡ n) → Decided (IsFreeChain rule m) → Decided (IsFreeStep g (suc k) n m)
      go (inl e) (inl c) = inl (record { rule = rule; numbered = at; left = e; chain = c.0; free = c.1 })
      go (inr d) c = inr (λ s. d (ap (λ (x : Rule). x.left) (sym (same s)) ∙ s.left))
      go (inl e) (inr d) = inr (λ s. d (subst (λ x. IsFreeChain x m) (same s) (s.chain, s.free)))

  abbrev StepTo : ℕ → ℕ → ℕ → Type 0
  StepTo k n m = (r : ℕ) × (r ≤ k) × IsFreeStep g r n m

  step_to_or_not : (k n m : ℕ) → Decided (StepTo k n m)
  step_to_or_not zero n m = inr (λ h. none h.0 h.1 h.2)
    where
      none : (r : ℕ) → r ≤ 0 → IsFreeStep g r n m → ⊥
      none zero b s = some_none (sym s.numbered)
      none (suc k) b s = absurd (omega arith)
  step_to_or_not (suc k) n m = go (step_to_or_not k n m) (here_or_not k n m (slice_get g.rules k) refl)
    where
      go : Decided (StepTo k n m) → Decided (IsFreeStep g (suc k) n m) → Decided (StepTo (suc k) n m)
      go (inl (r, b, s)) h = inl (r, omega arith, s)
      go (inr no_earlier) (inl s) = inl (suc k, omega arith, s)
      go (inr no_earlier) (inr not_here) = inr (λ h. last_one h.0 h.2 (up_to h.0 k (let b = h.1 in omega arith)))
        where
          last_one : (r : ℕ) → IsFreeStep g r n m → (r ≤ k) ⊎ (r ≡ suc k) → ⊥
          last_one r s (inl b) = no_earlier (r, b, s)
          last_one r s (inr e) = not_here (subst (λ x. IsFreeStep g x n m) e s)

  abbrev Step : ℕ → ℕ → Type 0
  Step n m = (r : ℕ) × IsFreeStep g r n m

  step_or_not : (n m : ℕ) → Decided (Step n m)
  step_or_not n m = go (step_to_or_not (length g.rules) n m)
    where
      go : Decided (StepTo (length g.rules) n m) → Decided (Step n m)
      go (inl (r, b, s)) = inl (r, s)
      go (inr d) = inr (λ h. d (h.0, within_rules g h.0 (h.1).rule (h.1).numbered, h.1))

  -- walks through nonterminals below k
  abbrev Reach : ℕ → ℕ → ℕ → Type 0
  Reach zero n m = Step n m
  Reach (suc k) n m = Reach k n m ⊎ (Reach k n k × Reach k k m)

  reach_or_not : (k n m : ℕ) → Decided (Reach k n m)
  reach_or_not zero n m = step_or_not n m
  reach_or_not (suc k) n m = go (reach_or_not k n m) (reach_or_not k n k) (reach_or_not k k m)
    where
      go : Decided (Reach k n m) → Decided (Reach k n k) → Decided (Reach k k m) → Decided (Reach (suc k) n m)
      go (inl h) p q = inl (inl h)
      go (inr h) (inl p) (inl q) = inl (inr (p, q))
      go (inr h) (inr p) q = inr (λ r. elim r [ inl x ↦ h x | inr x ↦ p x.0 ])
      go (inr h) (inl p) (inr q) = inr (λ r. elim r [ inl x ↦ h x | inr x ↦ q x.1 ])

  reaches : (k : ℕ) → IsReach g k (Reach k)
  reaches zero = reach_first g (λ n m. ⊥) Step (λ n m h. h) (λ n m. ((λ h. inr h), (λ h. elim h [ inl x ↦ absurd x | inr x ↦ x ])))
  reaches (suc k) = subst (λ x. IsReach g x (Reach (suc k))) (add-one k) (reach_more g k (Reach k) (Reach (suc k)) (reaches k) (λ n m. ((λ h. h), (λ h. h))))

  walk_or_not : IsLawful g → (n m : ℕ) → Decided (FreeWalk g n m)
  walk_or_not h n m = go (reach_or_not (length g.nonterminals) n m) (reach_all g (length g.nonterminals) (Reach (length g.nonterminals)) (reaches (length g.nonterminals)) (step_left g h) n m)
    where
      go : Decided (Reach (length g.nonterminals) n m) → (Reach (length g.nonterminals) n m → FreeWalk g n m) × (FreeWalk g n m → Reach (length g.nonterminals) n m) → Decided (FreeWalk g n m)
      go (inl r) b = inl (b.0 r)
      go (inr r) b = inr (λ w. r (b.1 w))

  back_or_not : IsLawful g → (rule : Rule) → Decided (LeadsBack g rule)
  back_or_not h rule = target rule.pattern refl
    where
      only : (m k : ℕ) → rule.pattern ≡ Leaf m → IsFreeChain rule k → k ≡ m
      only m k is c = leaf_same (sym c.0 ∙ is)

      found : (m : ℕ) → rule.pattern ≡ Leaf m → Decided (IsFreeChain rule m) → Decided (m ≡ rule.left) → Decided (FreeWalk g m rule.left) → Decided (LeadsBack g rule)
      found m is (inr d) e w = inr (λ b. d (subst (λ x. IsFreeChain rule x) (only m b.0 is b.1) b.1))
      found m is (inl c) (inl e) w = inl (m, c, inl e)
      found m is (inl c) (inr e) (inl w) = inl (m, c, inr w)
      found m is (inl c) (inr e) (inr w) =
          inr (λ b. elim (subst (λ x. (x ≡ rule.left) ⊎ FreeWalk g x rule.left) (only m b.0 is b.1) b.2) [ inl x ↦ e x | inr x ↦ w x ])

      target : (p : Pattern) → rule.pattern ≡ p → Decided (LeadsBack g rule)
      target (Leaf m) is = found m is (chain_or_not rule m) (same_or_not m rule.left) (walk_or_not h m rule.left)
      target (Nullary op) is = inr (λ b. other (sym is ∙ (b.1).0))
        where
          other : {m : ℕ} → Nullary op ≡ Leaf m → ⊥
          other e = cc
      target (Unary' op s p) is = inr (λ b. other (sym is ∙ (b.1).0))
        where
          other : {m : ℕ} → Unary' op s p ≡ Leaf m → ⊥
          other e = cc
      target (Binary' op s p s' q) is = inr (λ b. other (sym is ∙ (b.1).0))
        where
          other : {m : ℕ} → Binary' op s p s' q ≡ Leaf m → ⊥
          other e = cc

  abbrev Faulty : Type 0
  Faulty = (f : GrammarFault) × IsNormalFault g f

  none_left : (left k : ℕ) → k + suc left ≡ length g.rules → slice_get g.rules k ≡ None → ⊥
  none_left left k e at = beyond g.rules k at (omega arith)
    where
      beyond : (rules : List Rule) (k : ℕ) → slice_get rules k ≡ None → k < length rules → ⊥
      beyond [] k at b = absurd (omega arith)
      beyond (r ∷ rules) zero at b = some_none at
      beyond (r ∷ rules) (suc k) at b = beyond rules k at (omega arith)

  -- the rules from the place k on
  few_or_fault : (left k : ℕ) → k + left ≡ length g.rules → AreFewTo g k → HasFew g ⊎ Faulty
  few_or_fault zero k e h = let a = nonterminals_all g k (omega arith) in let f = h.each k (omega arith) in inl (omega arith)
  few_or_fault (suc left) k e h = go (slice_get g.rules k) refl (below_or_not most_normal_nonterminals (nonterminals_to g (suc k))) (few_or_fault left (k + 1) (omega arith))
    where
      go : (o : Option Rule) → slice_get g.rules k ≡ o → (most_normal_nonterminals < nonterminals_to g (suc k)) ⊎ (nonterminals_to g (suc k) ≤ most_normal_nonterminals)
          → (AreFewTo g (k + 1) → HasFew g ⊎ Faulty) → HasFew g ⊎ Faulty
      go None at c rest = absurd (none_left left k e at)
      go (Some rule) at (inl many) rest = inr (record { kind = too_many; line = rule.line; column = rule.column }, too_many_at g k rule _ at h many refl)
      go (Some rule) at (inr few) rest = rest (few_more g k h few)

  free_or_fault : IsLawful g → HasFew g → (left k : ℕ) → k + left ≡ length g.rules → AreFreeTo g k → IsAccepted g ⊎ Faulty
  free_or_fault h few zero k e free = inl (record { few = few; free = free_all g k (omega arith) free })
  free_or_fault h few (suc left) k e free = go (slice_get g.rules k) refl (free_or_fault h few left (k + 1) (omega arith))
    where
      decide : (rule : Rule) → slice_get g.rules k ≡ Some rule → Decided (LeadsBack g rule) → (AreFreeTo g (k + 1) → IsAccepted g ⊎ Faulty) → IsAccepted g ⊎ Faulty
      decide rule at (inl back) rest = inr (record { kind = zero_cycle; line = rule.line; column = rule.column }, zero_cycle_at g k rule _ at few free back refl)
      decide rule at (inr never) rest = rest (free_more g k rule at free never)

      go : (o : Option Rule) → slice_get g.rules k ≡ o → (AreFreeTo g (k + 1) → IsAccepted g ⊎ Faulty) → IsAccepted g ⊎ Faulty
      go None at rest = absurd (none_left left k e at)
      go (Some rule) at rest = decide rule at (back_or_not h rule) rest

pub accepted_or_fault : AcceptedOrFault
accepted_or_fault g h = go (few_or_fault g (length g.rules) 0 (omega arith) (few_none g (let w = h.within in let n = w.nonterminals in omega arith)))
  where
    go : HasFew g ⊎ Faulty g → IsAccepted g ⊎ Faulty g
    go (inl few) = free_or_fault g h few (length g.rules) 0 (omega arith) (free_none g)
    go (inr f) = inr f
