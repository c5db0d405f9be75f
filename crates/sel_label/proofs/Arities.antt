-- The normal rules for an operator have as many kids as the grammar says.
use Rattle.std.proofs.Common.{◌≡◌, ℕ, zero, suc, ◌+◌, ◌⊎◌, inl, inr, Option, Some, None, List, [], ◌∷◌, ◌++◌, refl, ap, sym, ◌∙◌, subst, slice_get, arith, length}
use Rattle.sel_grammar.specs.declared.grammar.Grammar.{Grammar}
use Rattle.sel_grammar.specs.declared.grammar.Operator.{Operator as GrammarOperator}
use Rattle.sel_grammar.specs.declared.grammar.Rule.{Rule}
use Rattle.sel_grammar.specs.declared.grammar.Pattern.{Pattern, Leaf, Nullary, Unary', Binary', end_of-Pattern, more_of-Pattern}
use Rattle.sel_grammar.specs.Fits.{rule_at}
use Rattle.sel_grammar.specs.Lawful.{IsLawful, IsPatternOf, HasOperator}
use Rattle.sel_forest.specs.Valid.{IsOperatorOf, Takes}
use Rattle.sel_normal.specs.declared.normal.Body.{Body}
use Rattle.sel_normal.specs.declared.normal.Body.TheVariants.{Chain, Operator}
use Rattle.sel_normal.specs.declared.normal.NormalRule.{NormalRule}
use Rattle.sel_normal.specs.NormalForms.{NormalForm, normal_at}
use Rattle.sel_normal.specs.Forms.{parts, inner_parts, places, body, test_number, IsFormOf}
use Rattle.sel_normal.specs.Cuts.{CutUser, CutHelper}
use Rattle.sel_normal.proofs.Kept.{form_cut}
use Rattle.sel_normal.proofs.Steps.{some_same, some_none}
use Rattle.sel_items.specs.declared.label.Label.{Label}
use Rattle.sel_items.specs.Labels.{AreAlike, HasLawfulKids}
use Rattle.sel_label.proofs.Lists.{AllOf, both_lists, one_more, no_items}

module _ (g : Grammar) where
  parts_lawful : (p : Pattern) → IsPatternOf g p → AllOf (IsPatternOf g) (parts p)
  parts_lawful (Leaf n) h = no_items (IsPatternOf g)
  parts_lawful (Nullary op) h = one_more (IsPatternOf g) (Nullary op) [] h (no_items (IsPatternOf g))
  parts_lawful (Unary' op s (more_of-Pattern p end_of-Pattern)) h =
      one_more (IsPatternOf g) (Unary' op s (more_of-Pattern p end_of-Pattern)) (parts p) h (parts_lawful p h.1)
  parts_lawful (Binary' op s (more_of-Pattern p end_of-Pattern) s' (more_of-Pattern q end_of-Pattern)) h =
      one_more (IsPatternOf g) (Binary' op s (more_of-Pattern p end_of-Pattern) s' (more_of-Pattern q end_of-Pattern)) (parts p ++ parts q) h
      (both_lists (IsPatternOf g) (parts p) (parts q) (parts_lawful p (h.1).0) (parts_lawful q (h.1).1))

  inner_lawful : (p : Pattern) → IsPatternOf g p → AllOf (IsPatternOf g) (inner_parts p)
  inner_lawful (Leaf n) h = no_items (IsPatternOf g)
  inner_lawful (Nullary op) h = no_items (IsPatternOf g)
  inner_lawful (Unary' op s (more_of-Pattern p end_of-Pattern)) h = parts_lawful p h.1
  inner_lawful (Binary' op s (more_of-Pattern p end_of-Pattern) s' (more_of-Pattern q end_of-Pattern)) h =
      both_lists (IsPatternOf g) (parts p) (parts q) (parts_lawful p (h.1).0) (parts_lawful q (h.1).1)

  places_lawful : (rules : List Rule) → ((k : ℕ) (rule : Rule) → slice_get rules k ≡ Some rule → IsPatternOf g rule.pattern) → AllOf (IsPatternOf g) (places rules)
  places_lawful [] h = no_items (IsPatternOf g)
  places_lawful (rule ∷ rules) h =
      both_lists (IsPatternOf g) (inner_parts rule.pattern) (places rules) (inner_lawful rule.pattern (h 0 rule refl))
      (places_lawful rules (λ k rule e. h (suc k) rule e))

  -- the operator of a rule with these kids is the grammar's, with as many
  abbrev KidsFit : ℕ → Option ℕ → Option ℕ → Type 0
  KidsFit op None None = HasOperator g op 0
  KidsFit op (Some n) None = HasOperator g op 1
  KidsFit op (Some n) (Some m) = HasOperator g op 2
  KidsFit op None (Some m) = ⊥

  abbrev BodyFits : Body → Type 0
  BodyFits (Chain n) = Unit {0}
  BodyFits (Operator op x y test) = KidsFit op x y

  body_fits : (k : ℕ) (test : Option ℕ) (p : Pattern) → IsPatternOf g p → BodyFits (body k test p)
  body_fits k test (Leaf n) h = tt
  body_fits k test (Nullary op) h = h
  body_fits k test (Unary' op s (more_of-Pattern p end_of-Pattern)) h = h.0
  body_fits k test (Binary' op s (more_of-Pattern p end_of-Pattern) s' (more_of-Pattern q end_of-Pattern)) h = h.0

  pattern_at : IsLawful g → (r : ℕ) (rule : Rule) → rule_at g r ≡ Some rule → IsPatternOf g rule.pattern
  pattern_at h zero rule at = absurd (some_none (sym at))
  pattern_at h (suc k) rule at = (h.rules k rule at).pattern

  rule_fits : (normal : NormalForm) → IsLawful g → IsFormOf g normal → (r : ℕ) (nr : NormalRule) → normal_at normal r ≡ Some nr → BodyFits nr.body
  rule_fits normal h form r nr at = go ((form_cut g normal h form).back r nr at)
    where
      go : ((rule : Rule) × (rule_at g r ≡ Some rule) × CutUser g normal rule nr)
          ⊎ ((j : ℕ) × (part : Pattern) × (slice_get (places g.rules) j ≡ Some part) × (r ≡ length g.rules + j + 1) × CutHelper g j part nr) → BodyFits nr.body
      go (inl (rule, there, cut)) =
          subst (λ (x : NormalRule). BodyFits x.body) (sym cut.is) (body_fits cut.number (test_number cut.test rule.range) rule.pattern (pattern_at h r rule there))
      go (inr (j, part, there, e, cut)) =
          subst (λ (x : NormalRule). BodyFits x.body) (sym cut.is)
          (body_fits (length g.nonterminals + j + 1) None part (places_lawful g.rules (λ k rule e. (h.rules k rule e).pattern) j part there))

  arity : (op kids n : ℕ) → IsOperatorOf g op kids → HasOperator g op n → kids ≡ n
  arity op kids n (operator, at, takes) (other, at', is) =
      let q : operator ≡ other = some_same (sym at ∙ at') in
      subst (λ o. Takes o kids) (ap (λ (o : GrammarOperator). o.arity) q ∙ is) takes

  no_kids : (op : ℕ) (x y : Option ℕ) → IsOperatorOf g op 0 → KidsFit op x y → AreAlike {A = ℕ} {B = Label} x None × AreAlike {A = ℕ} {B = Label} y None
  no_kids op None None o h = (tt, tt)
  no_kids op (Some n) None o h = let e = arity op 0 1 o h in absurd (omega arith)
  no_kids op (Some n) (Some m) o h = let e = arity op 0 2 o h in absurd (omega arith)
  no_kids op None (Some m) o h = absurd h

  one_kid : (op : ℕ) (x y : Option ℕ) (a : Label) → IsOperatorOf g op 1 → KidsFit op x y → AreAlike {A = ℕ} {B = Label} x (Some a) × AreAlike {A = ℕ} {B = Label} y None
  one_kid op None None a o h = let e = arity op 1 0 o h in absurd (omega arith)
  one_kid op (Some n) None a o h = (tt, tt)
  one_kid op (Some n) (Some m) a o h = let e = arity op 1 2 o h in absurd (omega arith)
  one_kid op None (Some m) a o h = absurd h

  two_kids : (op : ℕ) (x y : Option ℕ) (a b : Label) → IsOperatorOf g op 2 → KidsFit op x y → AreAlike {A = ℕ} {B = Label} x (Some a) × AreAlike {A = ℕ} {B = Label} y (Some b)
  two_kids op None None a b o h = let e = arity op 2 0 o h in absurd (omega arith)
  two_kids op (Some n) None a b o h = let e = arity op 2 1 o h in absurd (omega arith)
  two_kids op (Some n) (Some m) a b o h = (tt, tt)
  two_kids op None (Some m) a b o h = absurd h

  module _ (normal : NormalForm) (lawful : IsLawful g) (form : IsFormOf g normal) where
    fits : (op : ℕ) (r : ℕ) (rule : NormalRule) (x y test : Option ℕ) → normal_at normal r ≡ Some rule → rule.body ≡ Operator op x y test → KidsFit op x y
    fits op r rule x y test at is = subst BodyFits is (rule_fits normal lawful form r rule at)

    pub lawful_none : (op : ℕ) → IsOperatorOf g op 0 → HasLawfulKids {A = Label} normal op None None
    lawful_none op o r rule x y test at is = no_kids op x y o (fits op r rule x y test at is)

    pub lawful_one : (op : ℕ) (a : Label) → IsOperatorOf g op 1 → HasLawfulKids normal op (Some a) None
    lawful_one op a o r rule x y test at is = one_kid op x y a o (fits op r rule x y test at is)

    pub lawful_two : (op : ℕ) (a b : Label) → IsOperatorOf g op 2 → HasLawfulKids normal op (Some a) (Some b)
    lawful_two op a b o r rule x y test at is = two_kids op x y a b o (fits op r rule x y test at is)
