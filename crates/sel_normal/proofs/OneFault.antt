-- A normal form has one fault at most, and none where it is accepted.
use Rattle.std.proofs.Common.{◌≡◌, ℕ, zero, suc, ◌+◌, ◌<◌, ◌≤◌, ◌⊎◌, inl, inr, Option, Some, None, List, [], ◌∷◌, ◌++◌, length, take, refl, ap, sym, ◌∙◌, subst, slice_get, arith, length-append}
use Rattle.sel_grammar.specs.declared.grammar.Grammar.{Grammar}
use Rattle.sel_grammar.specs.declared.grammar.Rule.{Rule}
use Rattle.sel_grammar.specs.declared.refusal.GrammarFault.{GrammarFault}
use Rattle.sel_grammar.specs.Chains.{IsFreeStep, FreeWalk, last, step, HasNoFreeCycle}
use Rattle.sel_grammar.specs.Fits.{rule_at}
use Rattle.sel_grammar.specs.Limits.{most_normal_nonterminals}
use Rattle.sel_normal.specs.Forms.{inner_parts, places}
use Rattle.sel_normal.specs.NormalFaults.{nonterminals_to, HasFew, IsTooManyAt, StandsOnFreeCycle, IsZeroCycleAt, IsFaultAt, IsNormalFault, TooMany, ZeroCycle, IsAccepted}
use Rattle.sel_normal.specs.Laws.{NormalFaultIsOne, NotAcceptedAndFault}
use Rattle.sel_normal.proofs.Steps.{some_same}

-- two least numbers are one
three : (r q : ℕ) → (r < q) ⊎ ((r ≡ q) ⊎ (q < r))
three r q = grind arith

places_within : (rules : List Rule) (k : ℕ) → length (places (take k rules)) ≤ length (places rules)
places_within [] zero = omega arith
places_within [] (suc k) = omega arith
places_within (r ∷ rules) zero = omega arith
places_within (r ∷ rules) (suc k) =
    let i = places_within rules k in
    omega (arith, length-append (inner_parts r.pattern) (places (take k rules)), length-append (inner_parts r.pattern) (places rules))

few_never_many : (g : Grammar) (r : ℕ) → HasFew g → IsTooManyAt g r → ⊥
few_never_many g r few h = let w = places_within g.rules r in let p = h.passes in absurd (omega arith)

same_many : (g : Grammar) (r q : ℕ) → IsTooManyAt g r → IsTooManyAt g q → r ≡ q
same_many g r q h k = go (three r q)
  where
    go : (r < q) ⊎ ((r ≡ q) ⊎ (q < r)) → r ≡ q
    go (inl l) = let p = h.passes in let f = k.first r l in absurd (omega arith)
    go (inr (inl e)) = e
    go (inr (inr l)) = let p = k.passes in let f = h.first q l in absurd (omega arith)

same_cycle : (g : Grammar) (r q : ℕ) → IsZeroCycleAt g r → IsZeroCycleAt g q → r ≡ q
same_cycle g r q h k = go (three r q)
  where
    go : (r < q) ⊎ ((r ≡ q) ⊎ (q < r)) → r ≡ q
    go (inl l) = absurd (k.first r l h.stands)
    go (inr (inl e)) = e
    go (inr (inr l)) = absurd (h.first q l k.stands)

same_fault : (g : Grammar) (kind r q : ℕ) (e f : GrammarFault) → r ≡ q → IsFaultAt g kind r e → IsFaultAt g kind q f → e ≡ f
same_fault g kind r q e f same (rule, at, is) (rule', at', is') =
    let one : rule ≡ rule' = some_same (sym at ∙ ap (rule_at g) same ∙ at') in
    is ∙ (λ i. record { kind = kind; line = (one i).line; column = (one i).column }) ∙ sym is'

pub normal_fault_is_one : NormalFaultIsOne
normal_fault_is_one g e f (TooMany r m a) (TooMany q n b) = same_fault g _ r q e f (same_many g r q m n) a b
normal_fault_is_one g e f (TooMany r m a) (ZeroCycle q few n b) = absurd (few_never_many g r few m)
normal_fault_is_one g e f (ZeroCycle r few m a) (TooMany q n b) = absurd (few_never_many g q few n)
normal_fault_is_one g e f (ZeroCycle r few m a) (ZeroCycle q few' n b) = same_fault g _ r q e f (same_cycle g r q m n) a b

cycle_of : (g : Grammar) (r : ℕ) → StandsOnFreeCycle g r → (n : ℕ) × FreeWalk g n n
cycle_of g r h = (h.left, go h.back)
  where
    go : (h.right ≡ h.left) ⊎ FreeWalk g h.right h.left → FreeWalk g h.left h.left
    go (inl e) = last (subst (λ (m : ℕ). IsFreeStep g r h.left m) e h.step)
    go (inr w) = step h.step w

pub not_accepted_and_fault : NotAcceptedAndFault
not_accepted_and_fault g f a (TooMany r m at) = few_never_many g r a.few m
not_accepted_and_fault g f a (ZeroCycle r few m at) = let w = cycle_of g r m.stands in a.free w.0 w.1
