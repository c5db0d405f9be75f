-- Free chain rules, one rule after another.
use Rattle.std.proofs.Common.{◌≡◌, ℕ, zero, suc, ◌+◌, ◌<◌, ◌≤◌, ◌⊎◌, inl, inr, Option, Some, None, List, length, refl, ap, sym, ◌∙◌, subst, slice_get, arith}
use Rattle.std.specs.Prelude.{◌↔◌}
use Rattle.std.proofs.lemmas.Option.{slice_get_within}
use Rattle.sel_grammar.specs.declared.grammar.Grammar.{Grammar}
use Rattle.sel_grammar.specs.declared.grammar.Rule.{Rule}
use Rattle.sel_grammar.specs.declared.grammar.Pattern.{Leaf}
use Rattle.sel_grammar.specs.Chains.{IsFreeStep}
use Rattle.sel_grammar.specs.Fits.{rule_at}
use Rattle.sel_grammar.specs.Lawful.{IsLawful, IsRuleOf, IsPatternOf}
use Rattle.sel_grammar.specs.Limits.{most_nonterminals}
use Rattle.sel_normal.specs.Reach.{IsFreeChain}

pub some_same : {A : Type 0} {x y : A} → Some x ≡ Some y → x ≡ y
some_same h = cc

pub some_none : {A : Type 0} {x : A} → Some x ≡ None → ⊥
some_none h = cc

-- a rule that leads to `to` adds one step
pub one_step : (L M : ℕ → ℕ → Type 0) (C : ℕ → Type 0) (left to : ℕ) → ((m : ℕ) → (Some to ≡ Some m) ↔ C m) → ((n m : ℕ) → M n m ↔ (L n m ⊎ ((n ≡ left) × (m ≡ to))))
    → (n m : ℕ) → M n m ↔ (L n m ⊎ ((left ≡ n) × C m))
one_step L M C left to leads says n m = ((λ h. there ((says n m).0 h)), (λ h. (says n m).1 (back h)))
  where
    there : L n m ⊎ ((n ≡ left) × (m ≡ to)) → L n m ⊎ ((left ≡ n) × C m)
    there (inl h) = inl h
    there (inr h) = inr (sym h.0, (leads m).0 (ap (λ x. Some x) (sym h.1)))

    back : L n m ⊎ ((left ≡ n) × C m) → L n m ⊎ ((n ≡ left) × (m ≡ to))
    back (inl h) = inl h
    back (inr h) = inr (sym h.0, sym (some_same ((leads m).1 h.1)))

-- a rule that leads nowhere adds none
pub no_step : (L : ℕ → ℕ → Type 0) (C : ℕ → Type 0) (left : ℕ) → ((m : ℕ) → C m → ⊥) → (n m : ℕ) → L n m ↔ (L n m ⊎ ((left ≡ n) × C m))
no_step L C left nowhere n m = ((λ h. inl h), back)
  where
    back : L n m ⊎ ((left ≡ n) × C m) → L n m
    back (inl h) = h
    back (inr h) = absurd (nowhere m h.1)

-- the chain rule's nonterminal is one of the grammar's
pub target_within : (g : Grammar) (rule : Rule) (m : ℕ) → IsRuleOf g rule → rule.pattern ≡ Leaf m → m < length g.nonterminals
target_within g rule m h is = subst (λ p. IsPatternOf g p) is h.pattern

pub within_rules : (g : Grammar) (r : ℕ) (rule : Rule) → rule_at g r ≡ Some rule → r ≤ length g.rules
within_rules g zero rule at = omega arith
within_rules g (suc k) rule at = let w = slice_get_within g.rules k rule at in omega arith

pub rule_left : (g : Grammar) (r : ℕ) (rule : Rule) → IsLawful g → rule_at g r ≡ Some rule → rule.left < length g.nonterminals
rule_left g zero rule h at = absurd (some_none (sym at))
rule_left g (suc k) rule h at = h.within.lefts k rule at

pub step_left : (g : Grammar) → IsLawful g → (r n m : ℕ) → IsFreeStep g r n m → n < length g.nonterminals
step_left g h r n m s = let l = rule_left g r s.rule h s.numbered in let e = s.left in omega arith

at_or_before : (r k : ℕ) → r ≤ k + 1 → (r ≤ k) ⊎ (r ≡ suc k)
at_or_before r k h = grind arith

-- the steps of the rules up to one more
pub steps_more : (g : Grammar) (k : ℕ) (rule : Rule) (O L M : ℕ → ℕ → Type 0) → slice_get g.rules k ≡ Some rule → ((n m : ℕ) → L n m ↔ (O n m ⊎ ((r : ℕ) × (r ≤ k) × IsFreeStep g r n m)))
    → ((n m : ℕ) → M n m ↔ (L n m ⊎ ((rule.left ≡ n) × IsFreeChain rule m))) → (n m : ℕ) → M n m ↔ (O n m ⊎ ((r : ℕ) × (r ≤ k + 1) × IsFreeStep g r n m))
steps_more g k rule O L M at before says n m = ((λ h. there ((says n m).0 h)), back)
  where
    old : O n m ⊎ ((r : ℕ) × (r ≤ k) × IsFreeStep g r n m) → O n m ⊎ ((r : ℕ) × (r ≤ k + 1) × IsFreeStep g r n m)
    old (inl h) = inl h
    old (inr (r, b, s)) = inr (r, omega arith, s)

    there : L n m ⊎ ((rule.left ≡ n) × IsFreeChain rule m) → O n m ⊎ ((r : ℕ) × (r ≤ k + 1) × IsFreeStep g r n m)
    there (inl h) = old ((before n m).0 h)
    there (inr h) = inr (suc k, omega arith, record { rule = rule; numbered = at; left = h.0; chain = (h.1).0; free = (h.1).1 })

    new : (r : ℕ) → IsFreeStep g r n m → (r ≤ k) ⊎ (r ≡ suc k) → M n m
    new r s (inl b) = (says n m).1 (inl ((before n m).1 (inr (r, b, s))))
    new r s (inr e) =
        let same : s.rule ≡ rule = some_same (sym s.numbered ∙ ap (rule_at g) e ∙ at) in
        (says n m).1 (inr (ap (λ (x : Rule). x.left) (sym same) ∙ s.left, subst (λ x. IsFreeChain x m) same (s.chain, s.free)))

    back : O n m ⊎ ((r : ℕ) × (r ≤ k + 1) × IsFreeStep g r n m) → M n m
    back (inl h) = (says n m).1 (inl ((before n m).1 (inl h)))
    back (inr (r, b, s)) = new r s (at_or_before r k b)

-- those of all rules
pub steps_all : (g : Grammar) (k : ℕ) (O L : ℕ → ℕ → Type 0) → length g.rules ≤ k → ((n m : ℕ) → L n m ↔ (O n m ⊎ ((r : ℕ) × (r ≤ k) × IsFreeStep g r n m)))
    → (n m : ℕ) → L n m ↔ (O n m ⊎ ((r : ℕ) × IsFreeStep g r n m))
steps_all g k O L long says n m = ((λ h. there ((says n m).0 h)), (λ h. (says n m).1 (back h)))
  where
    there : O n m ⊎ ((r : ℕ) × (r ≤ k) × IsFreeStep g r n m) → O n m ⊎ ((r : ℕ) × IsFreeStep g r n m)
    there (inl h) = inl h
    there (inr (r, b, s)) = inr (r, s)

    back : O n m ⊎ ((r : ℕ) × IsFreeStep g r n m) → O n m ⊎ ((r : ℕ) × (r ≤ k) × IsFreeStep g r n m)
    back (inl h) = inl h
    back (inr (r, s)) = inr (r, (let w = within_rules g r s.rule s.numbered in omega arith), s)

-- no step is one of the rule 0
pub no_steps : (g : Grammar) (O : ℕ → ℕ → Type 0) (n m : ℕ) → O n m ↔ (O n m ⊎ ((r : ℕ) × (r ≤ 0) × IsFreeStep g r n m))
no_steps g O n m = ((λ h. inl h), back)
  where
    none : (r : ℕ) → r ≤ 0 → IsFreeStep g r n m → ⊥
    none zero b s = some_none (sym s.numbered)
    none (suc k) b s = absurd (omega arith)

    back : O n m ⊎ ((r : ℕ) × (r ≤ 0) × IsFreeStep g r n m) → O n m
    back (inl h) = h
    back (inr (r, b, s)) = absurd (none r b s)
