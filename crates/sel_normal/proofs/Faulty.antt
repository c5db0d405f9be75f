-- What is wrong with a normal form, looked for rule after rule.
use Rattle.std.proofs.Common.{◌≡◌, ℕ, zero, suc, ◌+◌, ◌<◌, ◌≤◌, ◌⊎◌, inl, inr, Bool, true, false, Option, Some, None, List, [], ◌∷◌, ◌++◌, length, take, refl, ap, sym, ◌∙◌, subst, slice_get, arith, length-append}
use Rattle.std.specs.Prelude.{◌↔◌, IsTrue}
use Rattle.sel_grammar.specs.declared.grammar.Grammar.{Grammar}
use Rattle.sel_grammar.specs.declared.grammar.Rule.{Rule}
use Rattle.sel_grammar.specs.declared.refusal.GrammarFault.{GrammarFault}
use Rattle.sel_grammar.specs.Chains.{IsFreeStep, FreeWalk, last, step, HasNoFreeCycle}
use Rattle.sel_grammar.specs.Fits.{rule_at}
use Rattle.sel_grammar.specs.Limits.{most_normal_nonterminals, too_many, zero_cycle}
use Rattle.sel_normal.specs.Forms.{inner_parts, places}
use Rattle.sel_normal.specs.NormalFaults.{nonterminals_to, HasFew, IsTooManyAt, StandsOnFreeCycle, IsZeroCycleAt, IsFaultAt, IsNormalFault, TooMany, ZeroCycle}
use Rattle.sel_normal.specs.Reach.{IsFreeChain}
use Rattle.sel_normal.proofs.Steps.{some_same, some_none, within_rules}

-- one rule more
places_take : (rules : List Rule) (k : ℕ) (rule : Rule) → slice_get rules k ≡ Some rule → length (places (take (suc k) rules)) ≡ length (places (take k rules)) + length (inner_parts rule.pattern)
places_take [] k rule at = absurd (some_none (sym at))
places_take (r ∷ rules) zero rule at =
    let e : length (inner_parts r.pattern) ≡ length (inner_parts rule.pattern) = ap (λ (x : Rule). length (inner_parts x.pattern)) (some_same at) in
    length-append (inner_parts r.pattern) [] ∙ omega arith
places_take (r ∷ rules) (suc k) rule at =
    let i = places_take rules k rule at in
    length-append (inner_parts r.pattern) (places (take (suc k) rules)) ∙ omega (arith, length-append (inner_parts r.pattern) (places (take k rules)))

pub nonterminals_more : (g : Grammar) (k : ℕ) (rule : Rule) → slice_get g.rules k ≡ Some rule → nonterminals_to g (suc k) ≡ nonterminals_to g k + length (inner_parts rule.pattern)
nonterminals_more g k rule at = let i = places_take g.rules k rule at in omega arith

take_all : (rules : List Rule) (k : ℕ) → length rules ≤ k → take k rules ≡ rules
take_all [] zero h = refl
take_all [] (suc k) h = refl
take_all (r ∷ rules) zero h = absurd (omega arith)
take_all (r ∷ rules) (suc k) h = ap (λ l. r ∷ l) (take_all rules k (omega arith))

pub nonterminals_all : (g : Grammar) (k : ℕ) → length g.rules ≤ k → nonterminals_to g k ≡ length g.nonterminals + length (places g.rules)
nonterminals_all g k h = ap (λ l. length g.nonterminals + length (places l)) (take_all g.rules k h)

pub up_to : (q k : ℕ) → q ≤ k + 1 → (q ≤ k) ⊎ (q ≡ suc k)
up_to q k h = grind arith

-- no rule up to the number passes the limit
pub record AreFewTo (g : Grammar) (k : ℕ) : Type 0 where
  pub each : (q : ℕ) → q ≤ k → nonterminals_to g q ≤ most_normal_nonterminals

pub few_none : (g : Grammar) → length g.nonterminals ≤ most_normal_nonterminals → AreFewTo g 0
few_none g h = record { each = each }
  where
    each : (q : ℕ) → q ≤ 0 → nonterminals_to g q ≤ most_normal_nonterminals
    each zero b = omega arith
    each (suc q) b = absurd (omega arith)

pub few_more : (g : Grammar) (k : ℕ) → AreFewTo g k → nonterminals_to g (suc k) ≤ most_normal_nonterminals → AreFewTo g (k + 1)
few_more g k h few = record { each = λ q b. each q (up_to q k b) }
  where
    each : (q : ℕ) → (q ≤ k) ⊎ (q ≡ suc k) → nonterminals_to g q ≤ most_normal_nonterminals
    each q (inl b) = h.each q b
    each q (inr e) = subst (λ x. nonterminals_to g x ≤ most_normal_nonterminals) (sym e) few

pub too_many_at : (g : Grammar) (k : ℕ) (rule : Rule) (f : GrammarFault) → slice_get g.rules k ≡ Some rule → AreFewTo g k → most_normal_nonterminals < nonterminals_to g (suc k)
    → f ≡ record { kind = too_many; line = rule.line; column = rule.column } → IsNormalFault g f
too_many_at g k rule f at few passes is = TooMany (suc k) (record { passes = passes; first = λ q b. few.each q (omega arith) }) (rule, at, is)

-- a rule that leads to `to` stands on a cycle where that leads back
pub cycle_some : (to : ℕ) (B : Type 0) (C Q : ℕ → Type 0) → ((m : ℕ) → (Some to ≡ Some m) ↔ C m) → B ↔ Q to → B ↔ ((m : ℕ) × C m × Q m)
cycle_some to B C Q leads says = ((λ b. (to, (leads to).0 refl, says.0 b)), back)
  where
    back : (m : ℕ) × C m × Q m → B
    back (m, h, q) = says.1 (subst Q (sym (some_same ((leads m).1 h))) q)

untrue : IsTrue false → ⊥
untrue h = cc

pub cycle_none : (C Q : ℕ → Type 0) → ((m : ℕ) → (None ≡ Some m) ↔ C m) → IsTrue false ↔ ((m : ℕ) × C m × Q m)
cycle_none C Q leads = ((λ b. absurd (untrue b)), back)
  where
    back : (m : ℕ) × C m × Q m → IsTrue false
    back (m, h, q) = absurd (some_none (sym ((leads m).1 h)))

-- no rule up to the number stands on a cycle
pub record AreFreeTo (g : Grammar) (k : ℕ) : Type 0 where
  pub none : (q : ℕ) → q ≤ k → StandsOnFreeCycle g q → ⊥

stands_within : (g : Grammar) (q : ℕ) → StandsOnFreeCycle g q → (1 ≤ q) × (q ≤ length g.rules)
stands_within g zero h = absurd (some_none (sym (h.step).numbered))
stands_within g (suc q) h = (omega arith, within_rules g (suc q) (h.step).rule (h.step).numbered)

pub free_none : (g : Grammar) → AreFreeTo g 0
free_none g = record { none = λ q b h. (let w = (stands_within g q h).0 in absurd (omega arith)) }

-- whether free chain rules lead from where the rule leads back to its left side
abbrev pub LeadsBack : Grammar → Rule → Type 0
LeadsBack g rule = (m : ℕ) × IsFreeChain rule m × ((m ≡ rule.left) ⊎ FreeWalk g m rule.left)

back_stands : (g : Grammar) (k : ℕ) (rule : Rule) → slice_get g.rules k ≡ Some rule → LeadsBack g rule → StandsOnFreeCycle g (suc k)
back_stands g k rule at (m, c, back) = record { left = rule.left; right = m; step = record { rule = rule; numbered = at; left = refl; chain = c.0; free = c.1 }; back = back }

stands_back : (g : Grammar) (k : ℕ) (rule : Rule) → slice_get g.rules k ≡ Some rule → StandsOnFreeCycle g (suc k) → LeadsBack g rule
stands_back g k rule at h =
    let s = h.step in
    let same : s.rule ≡ rule = some_same (sym s.numbered ∙ at) in
    let left : h.left ≡ rule.left = sym s.left ∙ ap (λ (x : Rule). x.left) same in
    (h.right, subst (λ x. IsFreeChain x h.right) same (s.chain, s.free), subst (λ (n : ℕ). (h.right ≡ n) ⊎ FreeWalk g h.right n) left h.back)

pub free_more : (g : Grammar) (k : ℕ) (rule : Rule) → slice_get g.rules k ≡ Some rule → AreFreeTo g k → (LeadsBack g rule → ⊥) → AreFreeTo g (k + 1)
free_more g k rule at h never = record { none = λ q b s. none q (up_to q k b) s }
  where
    none : (q : ℕ) → (q ≤ k) ⊎ (q ≡ suc k) → StandsOnFreeCycle g q → ⊥
    none q (inl b) s = h.none q b s
    none q (inr e) s = never (stands_back g k rule at (subst (λ x. StandsOnFreeCycle g x) e s))

pub zero_cycle_at : (g : Grammar) (k : ℕ) (rule : Rule) (f : GrammarFault) → slice_get g.rules k ≡ Some rule → HasFew g → AreFreeTo g k → LeadsBack g rule
    → f ≡ record { kind = zero_cycle; line = rule.line; column = rule.column } → IsNormalFault g f
zero_cycle_at g k rule f at few free back is =
    ZeroCycle (suc k) few (record { stands = back_stands g k rule at back; first = λ q b s. free.none q (omega arith) s }) (rule, at, is)

-- where no rule stands on a cycle there is none
pub free_all : (g : Grammar) (k : ℕ) → length g.rules ≤ k → AreFreeTo g k → HasNoFreeCycle g
free_all g k long h n w = go n w
  where
    none : (q : ℕ) → StandsOnFreeCycle g q → ⊥
    none q s = h.none q (let w = (stands_within g q s).1 in omega arith) s

    go : (n : ℕ) → FreeWalk g n n → ⊥
    go n (last {r} s) = none r (record { left = n; right = n; step = s; back = inl refl })
    go n (step {r} {m = x} s v) = none r (record { left = n; right = x; step = s; back = inr v })

-- bits that say where free chain rules lead say whether they lead back
pub bits_lead : (g : Grammar) (rule : Rule) (L : ℕ → ℕ → Type 0) → ((n m : ℕ) → L n m ↔ FreeWalk g n m) → (m : ℕ) × IsFreeChain rule m × ((m ≡ rule.left) ⊎ L m rule.left) → LeadsBack g rule
bits_lead g rule L says (m, h, inl e) = (m, h, inl e)
bits_lead g rule L says (m, h, inr l) = (m, h, inr ((says m rule.left).0 l))

pub lead_bits : (g : Grammar) (rule : Rule) (L : ℕ → ℕ → Type 0) → ((n m : ℕ) → L n m ↔ FreeWalk g n m) → LeadsBack g rule → (m : ℕ) × IsFreeChain rule m × ((m ≡ rule.left) ⊎ L m rule.left)
lead_bits g rule L says (m, h, inl e) = (m, h, inl e)
lead_bits g rule L says (m, h, inr w) = (m, h, inr ((says m rule.left).1 w))

pub untrue_at : (b : Bool) → b ≡ false → IsTrue b → ⊥
untrue_at b e h = untrue (subst IsTrue e h)
