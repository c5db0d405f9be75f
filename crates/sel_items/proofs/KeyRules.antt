-- The rules of a normal form at a tree: what the kids of each cost by the key, and which of the user's rules, or which helper, each is.
use Rattle.std.proofs.Common.{◌≡◌, ℕ, ◌+◌, ◌<◌, ◌⊎◌, inl, inr, List, [], ◌∷◌, length, refl, ap, subst, sym, ◌∙◌, Option, Some, None, Bool, true, false, ◌&&◌, ◌==◌, if◌then◌else◌, slice_get, arith}
use Rattle.sel_grammar.specs.declared.grammar.Grammar.{Grammar}
use Rattle.sel_grammar.specs.declared.grammar.Rule.{Rule}
use Rattle.sel_grammar.specs.declared.grammar.Pattern.{Pattern, Leaf}
use Rattle.sel_grammar.specs.Costs.{Cost, no_cost, ◌⊕◌, paid, price}
use Rattle.sel_grammar.specs.PlainTrees.{PlainTree, attribute_of}
use Rattle.sel_grammar.specs.Fits.{leaves, subtrees, fits, rule_at, in_range}
use Rattle.sel_grammar.specs.Firsts.{AllFirst}
use Rattle.sel_grammar.proofs.CostLaws.{same_sums, sum_none, sum_swap, sum_comm}
use Rattle.sel_grammar.proofs.Closure.{IsOperator, Outcome, chain_or_not}
use Rattle.sel_normal.specs.declared.normal.Body.TheVariants.{Chain, Operator}
use Rattle.sel_normal.specs.declared.normal.NormalRule.{NormalRule}
use Rattle.sel_normal.specs.NormalForms.{NormalForm, normal_at}
use Rattle.sel_normal.specs.Forms.{places, body, test_number}
use Rattle.sel_normal.specs.Cuts.{BodyAt, IsOperatorPart, CutUser, CutHelper, IsCut}
use Rattle.sel_normal.proofs.Steps.{some_same, some_none}
use Rattle.sel_items.specs.declared.items.Items.{Items}
use Rattle.sel_items.specs.Follows.{NodeKey, test_holds, cost_of_kids, operator_cost, IsCandidate}
use Rattle.sel_items.proofs.Meanings.{PartCosts, KidsGoals, kid_trees, operator_of, IsTreeKey}
use Rattle.sel_items.proofs.GoalKids.{op_of, first_kid, second_kid, body_is, pattern_known}

both_true : (p q : Bool) (o : Option Cost) (k : Cost) → (if p && q then o else None) ≡ Some k → (q ≡ true) × ((if p then o else None) ≡ Some k)
both_true true true o k h = (refl, h)
both_true true false o k h = absurd (some_none (sym h))
both_true false q o k h = absurd (some_none (sym h))

passed : (p q : Bool) (o : Option Cost) → q ≡ true → (if p && q then o else None) ≡ (if p then o else None)
passed true q o h = ap (λ b. if b then o else None) h
passed false q o h = refl

pub fitting_parts : (b : Bool) (o : Option (List PlainTree)) (ts : List PlainTree) → (if b then o else None) ≡ Some ts → (b ≡ true) × (o ≡ Some ts)
fitting_parts true o ts h = (refl, h)
fitting_parts false o ts h = absurd (some_none (sym h))

pub chain_body : (k : ℕ) (test : Option ℕ) (p : Pattern) (m : ℕ) → p ≡ Leaf m → body k test p ≡ Chain m
chain_body k test p m h = ap (body k test) h

pub no_chain : (k : ℕ) (test : Option ℕ) (p : Pattern) (m : ℕ) → IsOperatorPart p → body k test p ≡ Chain m → ⊥
no_chain k test p m op h = differs (sym (body_is k test p op) ∙ h)
  where
    differs : {o : ℕ} {a b c : Option ℕ} → Operator o a b c ≡ Chain m → ⊥
    differs h = cc

pub shifted_price : (shift p c k : Cost) → c ≡ shift ⊕ k → p ⊕ c ≡ shift ⊕ (p ⊕ k)
shifted_price shift p c k h = same_sums p p c (shift ⊕ k) refl h ∙ sum_swap p shift k

pub none_plus : (k : Cost) → no_cost ⊕ k ≡ k
none_plus k = sum_comm no_cost k ∙ sym (sum_none k)

module _ {g : Grammar} {normal : NormalForm} where
  -- the parts of a user rule's cut
  pub left_is : (rule : Rule) (nr : NormalRule) → CutUser g normal rule nr → nr.left ≡ rule.left
  left_is rule nr c = ap (λ (x : NormalRule). x.left) c.is

  pub cost_is : (rule : Rule) (nr : NormalRule) → CutUser g normal rule nr → paid nr.cost ≡ price rule
  cost_is rule nr c = ap (λ (x : NormalRule). paid x.cost) c.is

  pub body_of : (rule : Rule) (nr : NormalRule) → (c : CutUser g normal rule nr) → nr.body ≡ body c.number (test_number c.test rule.range) rule.pattern
  body_of rule nr c = ap (λ (x : NormalRule). x.body) c.is

  -- a user's chain rule in the normal form
  pub chain_rule : (rule : Rule) (nr : NormalRule) (m : ℕ) → (c : CutUser g normal rule nr) → nr.body ≡ Chain m → (rule.pattern ≡ Leaf m) × (m < length g.nonterminals)
  chain_rule rule nr m c is = go (chain_or_not rule.pattern)
    where
      leaf : (k : ℕ) → rule.pattern ≡ Leaf k → (rule.pattern ≡ Leaf m) × (m < length g.nonterminals)
      leaf k h =
          let e : Chain k ≡ Chain m = sym (chain_body c.number (test_number c.test rule.range) rule.pattern k h) ∙ sym (body_of rule nr c) ∙ is in
          let same : k ≡ m = cc in
          (h ∙ ap Leaf same, subst (λ x. x < length g.nonterminals) same (subst (BodyAt g c.number) h c.below))

      go : ((k : ℕ) × (rule.pattern ≡ Leaf k)) ⊎ ((k : ℕ) → rule.pattern ≡ Leaf k → ⊥) → (rule.pattern ≡ Leaf m) × (m < length g.nonterminals)
      go (inl (k, h)) = leaf k h
      go (inr op) = absurd (no_chain c.number (test_number c.test rule.range) rule.pattern m op (sym (body_of rule nr c) ∙ is))

pub helper_body : {g : Grammar} (j : ℕ) (part : Pattern) (nr : NormalRule) → CutHelper g j part nr → nr.body ≡ body (length g.nonterminals + j + 1) None part
helper_body j part nr c = ap (λ (x : NormalRule). x.body) c.is

pub helper_free : {g : Grammar} (j : ℕ) (part : Pattern) (nr : NormalRule) → CutHelper g j part nr → paid nr.cost ≡ no_cost
helper_free j part nr c = ap (λ (x : NormalRule). paid x.cost) c.is

-- the best kids by an operator rule, or that there are none
pub low_outcome : {g : Grammar} {normal : NormalForm} (cut : IsCut g normal) (t : PlainTree) (shift : Cost) (is : List Items) → KidsGoals g (kid_trees t) shift is
    → (r : ℕ) (rule : Rule) (ts : List PlainTree) → rule_at g r ≡ Some rule → IsOperator rule → fits rule t ≡ Some ts → Outcome g (leaves rule.pattern) ts
low_outcome {g} cut t shift is kids r rule ts at operator fit =
    let n = cut.user r rule at in
    let f = fitting_parts (in_range rule.range (attribute_of t)) (subtrees rule.pattern t) ts fit in
    go _ f.1 (pattern_known g rule.pattern (n.2).number t shift is operator (n.2).below kids)
  where
    go : (x : Option Cost) → subtrees rule.pattern t ≡ Some ts → PartCosts g rule.pattern t shift x → Outcome g (leaves rule.pattern) ts
    go None lies none = inr (none ts lies)
    go (Some x) lies h = inl (h.kids, subst (λ u. AllFirst g h.kids (leaves rule.pattern) u) (some_same (sym h.lies ∙ lies)) h.firsts)

module _ {g : Grammar} {normal : NormalForm} {key : NodeKey} {t : PlainTree} {shift : Cost} (over : IsTreeKey g normal key t shift) where
  -- a rule's price for the key, where it is cut from an operator pattern
  pub priced_by : (nr : NormalRule) (k : ℕ) (test : Option ℕ) (p : Pattern) → nr.body ≡ body k test p → IsOperatorPart p → test_holds normal.tests key.class test ≡ true
      → operator_cost normal key nr.body ≡ (if op_of p == operator_of t then cost_of_kids (first_kid k p) (second_kid k p) key.kids else None)
  priced_by nr k test p is op pass =
      ap (operator_cost normal key) (is ∙ body_is k test p op)
      ∙ passed (op_of p == key.operator) (test_holds normal.tests key.class test) (cost_of_kids (first_kid k p) (second_kid k p) key.kids) pass
      ∙ ap (λ v. if op_of p == v then cost_of_kids (first_kid k p) (second_kid k p) key.kids else None) over.operator

  pub price_of : (nr : NormalRule) (k : ℕ) (test : Option ℕ) (p : Pattern) (c : Cost) → nr.body ≡ body k test p → IsOperatorPart p → operator_cost normal key nr.body ≡ Some c
      → (test_holds normal.tests key.class test ≡ true) × ((if op_of p == operator_of t then cost_of_kids (first_kid k p) (second_kid k p) key.kids else None) ≡ Some c)
  price_of nr k test p c is op h =
      let w = both_true (op_of p == key.operator) (test_holds normal.tests key.class test) (cost_of_kids (first_kid k p) (second_kid k p) key.kids) c (ap (operator_cost normal key) (sym (is ∙ body_is k test p op)) ∙ h) in
      (w.0, ap (λ v. if op_of p == v then cost_of_kids (first_kid k p) (second_kid k p) key.kids else None) (sym over.operator) ∙ w.1)

  pub known : (p : Pattern) (k : ℕ) → IsOperatorPart p → BodyAt g k p → PartCosts g p t shift (if op_of p == operator_of t then cost_of_kids (first_kid k p) (second_kid k p) key.kids else None)
  known p k op b = pattern_known g p k t shift key.kids op b over.kids

  pub tested : (r : ℕ) (rule : Rule) (nr : NormalRule) (ts : List PlainTree) → (c : CutUser g normal rule nr) → rule_at g r ≡ Some rule → subtrees rule.pattern t ≡ Some ts → test_holds normal.tests key.class (test_number c.test rule.range) ≡ in_range rule.range (attribute_of t)
  tested r rule nr ts c at lies = over.decides r rule ts (test_number c.test rule.range) at lies c.range

  -- a normal rule whose left side is the user's is a user rule
  pub user_rule : (n r : ℕ) (nr : NormalRule) → n < length g.nonterminals → normal_at normal r ≡ Some nr → nr.left ≡ n → (rule : Rule) × (rule_at g r ≡ Some rule) × CutUser g normal rule nr
  user_rule n r nr h at left = go ((over.cut).back r nr at)
    where
      go : ((rule : Rule) × (rule_at g r ≡ Some rule) × CutUser g normal rule nr) ⊎ ((j : ℕ) × (part : Pattern) × (slice_get (places g.rules) j ≡ Some part) × (r ≡ length g.rules + j + 1) × CutHelper g j part nr)
          → (rule : Rule) × (rule_at g r ≡ Some rule) × CutUser g normal rule nr
      go (inl u) = u
      go (inr (j, part, there, is, c)) = let e : nr.left ≡ length g.nonterminals + j = ap (λ (x : NormalRule). x.left) c.is in absurd (omega arith)

  -- the one candidate of an inner place is its helper rule
  pub helper_only : (j : ℕ) (part : Pattern) → slice_get (places g.rules) j ≡ Some part → (r : ℕ) (nr : NormalRule) → normal_at normal r ≡ Some nr → nr.left ≡ length g.nonterminals + j → (r ≡ length g.rules + j + 1) × CutHelper g j part nr
  helper_only j part there r nr at left = go ((over.cut).back r nr at)
    where
      go : ((rule : Rule) × (rule_at g r ≡ Some rule) × CutUser g normal rule nr) ⊎ ((i : ℕ) × (p : Pattern) × (slice_get (places g.rules) i ≡ Some p) × (r ≡ length g.rules + i + 1) × CutHelper g i p nr)
          → (r ≡ length g.rules + j + 1) × CutHelper g j part nr
      go (inl (rule, at', c)) = let e = left_is rule nr c in let h = over.lefts r rule at' in absurd (omega arith)
      go (inr (i, p, here, is, c)) =
          let e : nr.left ≡ length g.nonterminals + i = ap (λ (x : NormalRule). x.left) c.is in
          let same : i ≡ j = omega arith in
          let one : p ≡ part = some_same (sym here ∙ ap (slice_get (places g.rules)) same ∙ there) in
          (is ∙ ap (λ x. length g.rules + x + 1) same, subst (λ x. CutHelper g x part nr) same (subst (λ x. CutHelper g i x nr) one c))

  -- the candidate of an inner place
  pub part_candidate : (j : ℕ) (part : Pattern) → slice_get (places g.rules) j ≡ Some part → (qs : List ℕ) (r : ℕ) (c : Cost) → IsCandidate normal key (length g.nonterminals + j) qs r c
      → (qs ≡ []) × (r ≡ length g.rules + j + 1) × ((nr : NormalRule) × CutHelper g j part nr × (operator_cost normal key nr.body ≡ Some c))
  part_candidate j part there [] r c (nr, at, left, (k, priced, is)) =
      let o = helper_only j part there r nr at left in
      (refl, o.0, (nr, o.1, priced ∙ ap (λ (x : Cost). Some x) (sym (is ∙ ap (λ p. p ⊕ k) (helper_free j part nr o.1) ∙ none_plus k))))
  part_candidate j part there (q ∷ qs) r c (nr, at, left, (m, chain, rest)) =
      let o = helper_only j part there q nr at left in
      absurd (no_chain (length g.nonterminals + j + 1) None part m (o.1).operator (sym (helper_body j part nr o.1) ∙ chain))

  -- what the part costs by the key is what its helper rule's kids do
  pub part_known : (j : ℕ) (part : Pattern) (nr : NormalRule) → CutHelper g j part nr → PartCosts g part t shift (operator_cost normal key nr.body)
  part_known j part nr c =
      subst (PartCosts g part t shift) (sym (priced_by nr (length g.nonterminals + j + 1) None part (helper_body j part nr c) c.operator refl))
      (known part (length g.nonterminals + j + 1) c.operator c.below)
