-- The rules that use an operator.
use Rattle.std.proofs.Common.{◌≡◌, ℕ, zero, suc, ◌<◌, Option, Some, None, List, [], ◌∷◌, refl, ap, sym, ◌∙◌, subst, slice_get, arith, Bool, true, false, ◌==◌, if◌then◌else◌}
use Rattle.sel_grammar.specs.Limits.{most_operators}
use Rattle.sel_normal.specs.declared.normal.Body.{Body}
use Rattle.sel_normal.specs.declared.normal.Body.TheVariants.{Chain, Operator}
use Rattle.sel_normal.specs.declared.normal.NormalRule.{NormalRule}
use Rattle.sel_normal.specs.NormalForms.{NormalForm, normal_at}
use Rattle.sel_normal.specs.Standing.{IsStanding, IsBodyWithin}
use Rattle.sel_normal.proofs.Steps.{some_same, some_none}
use Rattle.sel_full.specs.Automata.{TakesAll}
use Rattle.sel_full.specs.Reach.{IsUsed, kid_count}
use Rattle.sel_full.specs.Tables.{kids_in, or_else, kids_by}

-- the kids of the first rule that uses the operator
pub record IsFirstUse (rules : List NormalRule) (op k : ℕ) : Type 0 where
  pub place : ℕ
  pub rule : NormalRule
  pub first : Option ℕ
  pub second : Option ℕ
  pub test : Option ℕ
  pub there : slice_get rules place ≡ Some rule
  pub body : rule.body ≡ Operator op first second test
  pub count : kid_count first second ≡ k

later : (rules : List NormalRule) (r : NormalRule) (op k : ℕ) → IsFirstUse rules op k → IsFirstUse (r ∷ rules) op k
later rules r op k u = record { place = suc u.place; rule = u.rule; first = u.first; second = u.second; test = u.test; there = u.there; body = u.body; count = u.count }

same_number : (a b : ℕ) → (a == b) ≡ true → a ≡ b
same_number a b h = grind arith

same_true : (a b : ℕ) → a ≡ b → (a == b) ≡ true
same_true a b h = grind arith

abbrev Found : List NormalRule → ℕ → Type 0
Found rules op = (k : ℕ) × (kids_by rules op ≡ Some k) × IsFirstUse rules op k

-- the right side decides first
by_body : (r : NormalRule) (rules : List NormalRule) (op : ℕ) (body : Body) → r.body ≡ body → kids_by (r ∷ rules) op ≡ or_else (kids_in body op) (kids_by rules op)
by_body r rules op body e = ap (λ body. or_else (kids_in body op) (kids_by rules op)) e

by_test : (x y rest : Option ℕ) (b c : Bool) → b ≡ c → or_else (if b then Some (kid_count x y) else None) rest ≡ or_else (if c then Some (kid_count x y) else None) rest
by_test x y rest b c q = ap (λ c. or_else (if c then Some (kid_count x y) else None) rest) q

-- a rule at a place uses the operator: so some rule does first
pub used_first : (rules : List NormalRule) (op j : ℕ) (rule : NormalRule) (a b test : Option ℕ) → slice_get rules j ≡ Some rule → rule.body ≡ Operator op a b test → (k : ℕ) × (kids_by rules op ≡ Some k) × IsFirstUse rules op k
used_first [] op j rule a b test at is = absurd (some_none (sym at))
used_first (r ∷ rules) op zero rule a b test at is =
    (kid_count a b, ap (λ o. or_else o (kids_by rules op)) (ap (λ body. kids_in body op) body ∙ ap (λ c. if c then Some (kid_count a b) else None) (same_true op op refl)), record { place = 0; rule = r; first = a; second = b; test = test; there = refl; body = body; count = refl })
  where
    body : r.body ≡ Operator op a b test
    body = ap (λ (r : NormalRule). r.body) (some_same at) ∙ is
used_first (r ∷ rules) op (suc j) rule a b test at is = go r.body refl (used_first rules op j rule a b test at is)
  where
    go : (body : Body) → r.body ≡ body → Found rules op → Found (r ∷ rules) op
    go (Chain m) e (k, by, u) = (k, by_body r rules op (Chain m) e ∙ by, later rules r op k u)
    go (Operator o x y test') e (k, by, u) = tested (o == op) refl
      where
        tested : (c : Bool) → (o == op) ≡ c → (k : ℕ) × (kids_by (r ∷ rules) op ≡ Some k) × IsFirstUse (r ∷ rules) op k
        tested true q = (
          kid_count x y,
          by_body r rules op (Operator o x y test') e ∙ by_test x y (kids_by rules op) (o == op) true q,
          record { place = 0; rule = r; first = x; second = y; test = test'; there = refl; body = e ∙ ap (λ o. Operator o x y test') (same_number o op q); count = refl },
        )
        tested false q = (k, by_body r rules op (Operator o x y test') e ∙ by_test x y (kids_by rules op) (o == op) false q ∙ by, later rules r op k u)

-- and where so many kids are found, a first rule has them
pub by_first : (rules : List NormalRule) (op j : ℕ) → kids_by rules op ≡ Some j → IsFirstUse rules op j
by_first [] op j h = absurd (some_none (sym h))
by_first (r ∷ rules) op j h = go (by_first rules op j) r.body refl
  where
    go : (kids_by rules op ≡ Some j → IsFirstUse rules op j) → (body : Body) → r.body ≡ body → IsFirstUse (r ∷ rules) op j
    go rest (Chain m) e = later rules r op j (rest (sym (by_body r rules op (Chain m) e) ∙ h))
    go rest (Operator o x y test) e = tested (o == op) refl
      where
        tested : (c : Bool) → (o == op) ≡ c → IsFirstUse (r ∷ rules) op j
        tested true q = record {
          place = 0;
          rule = r;
          first = x;
          second = y;
          test = test;
          there = refl;
          body = e ∙ ap (λ o. Operator o x y test) (same_number o op q);
          count = some_same (sym (by_test x y (kids_by rules op) (o == op) true q) ∙ (sym (by_body r rules op (Operator o x y test) e) ∙ h));
        }
        tested false q = later rules r op j (rest (sym (by_test x y (kids_by rules op) (o == op) false q) ∙ (sym (by_body r rules op (Operator o x y test) e) ∙ h)))

-- where each rule for the operator has so many kids, so many are found
pub takes_by : (normal : NormalForm) (op k j : ℕ) → TakesAll normal op k → kids_by normal.rules op ≡ Some j → j ≡ k
takes_by normal op k j takes h = let u = by_first normal.rules op j h in sym u.count ∙ takes (suc u.place) u.rule u.first u.second u.test u.there u.body

-- where none are found, no rule uses the operator
pub none_by : (normal : NormalForm) (op k : ℕ) → kids_by normal.rules op ≡ None → IsUsed normal op k → ⊥
none_by normal op k h u = go u.number refl
  where
    go : (n : ℕ) → u.number ≡ n → ⊥
    go zero e = some_none (sym u.numbered ∙ ap (normal_at normal) e)
    go (suc n) e = let (j, by, first) = used_first normal.rules op n u.rule u.first u.second u.test (sym (ap (normal_at normal) e) ∙ u.numbered) u.body in some_none (sym by ∙ h)

-- a rule's operator is one that a grammar may have
pub used_below : (normal : NormalForm) (op j : ℕ) → IsStanding normal → kids_by normal.rules op ≡ Some j → op < most_operators
used_below normal op j standing h =
    let u = by_first normal.rules op j h in
    (subst (IsBodyWithin normal) u.body (standing.within (suc u.place) u.rule u.there).body).4

-- and has two kids at most
pub two_at_most : (a b : Option ℕ) (k : ℕ) → kid_count a b ≡ suc (suc (suc k)) → ⊥
two_at_most None b k e = absurd (omega arith)
two_at_most (Some a) None k e = absurd (omega arith)
two_at_most (Some a) (Some b) k e = absurd (omega arith)

pub few_by : (rules : List NormalRule) (op k : ℕ) → kids_by rules op ≡ Some (suc (suc (suc k))) → ⊥
few_by rules op k h = let u = by_first rules op (suc (suc (suc k))) h in two_at_most u.first u.second k u.count
