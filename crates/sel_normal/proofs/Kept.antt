-- The normal form of a lawful grammar that has few normal nonterminals keeps what each normal form keeps.
use Rattle.std.proofs.Common.{◌≡◌, ℕ, zero, suc, ◌+◌, ◌-◌, ◌<◌, ◌≤◌, ◌⊎◌, inl, inr, List, [], ◌∷◌, ◌++◌, length, refl, ap, subst, sym, ◌∙◌, Option, Some, None, slice_get, arith, length-append}
use Rattle.std.proofs.lemmas.Option.{slice_get_within}
use Rattle.sel_base.specs.declared.range.Range.{Range}
use Rattle.sel_grammar.specs.declared.grammar.Grammar.{Grammar}
use Rattle.sel_grammar.specs.declared.grammar.Rule.{Rule}
use Rattle.sel_grammar.specs.declared.grammar.Pattern.{Pattern, Leaf, Nullary, Unary', Binary', end_of-Pattern, more_of-Pattern}
use Rattle.sel_grammar.specs.Fits.{rule_at}
use Rattle.sel_grammar.specs.Lawful.{IsLawful, HasOperator, IsPatternOf}
use Rattle.sel_grammar.specs.Limits.{most_operators, most_rules, most_normal_nonterminals}
use Rattle.sel_normal.specs.declared.normal.NormalRule.{NormalRule}
use Rattle.sel_normal.specs.NormalForms.{NormalForm, normal_at}
use Rattle.sel_normal.specs.NormalFaults.{HasFew}
use Rattle.sel_normal.specs.Laws.{LawfulFormsStand}
use Rattle.sel_normal.specs.Forms.{parts, places, head, body, helper_rule, helper_rules, some_range, tests, test_number, cut_rules, IsFormOf}
use Rattle.sel_normal.specs.Seen.{range_at}
use Rattle.sel_normal.specs.Standing.{IsWithin, IsBodyWithin, IsRuleWithin, IsStanding}
use Rattle.sel_normal.specs.Cuts.{HeadAt, BodyAt, CutUser, CutHelper, IsCut}
use Rattle.sel_normal.proofs.Steps.{some_same, some_none, rule_left}
use Rattle.sel_normal.proofs.Cutting.{IsCut-form, cut_long}

pub patterns : (g : Grammar) → IsLawful g → (i : ℕ) (rule : Rule) → slice_get g.rules i ≡ Some rule → IsPatternOf g rule.pattern
patterns g h i rule at = (h.rules i rule at).pattern

pattern_low : (g : Grammar) → IsLawful g → (r : ℕ) (rule : Rule) → rule_at g r ≡ Some rule → IsPatternOf g rule.pattern
pattern_low g h zero rule at = absurd (some_none (sym at))
pattern_low g h (suc k) rule at = patterns g h k rule at

pub form_cut : (g : Grammar) (normal : NormalForm) → IsLawful g → IsFormOf g normal → IsCut g normal
form_cut g normal h form = IsCut-form g normal form (patterns g h)

helpers_long : (k : ℕ) (ps : List Pattern) → length (helper_rules k ps) ≡ length ps
helpers_long k [] = refl
helpers_long k (p ∷ ps) = ap suc (helpers_long (k + 1) ps)

one_or_none : (o : Option Range) (rest : List Range) (n : ℕ) → length rest ≤ n → length (some_range o ++ rest) ≤ suc n
one_or_none None rest n h = omega arith
one_or_none (Some r) rest n h = omega arith

-- no more tests than rules
pub tests_few : (rules : List Rule) → length (tests rules) ≤ length rules
tests_few [] = omega arith
tests_few (rule ∷ rules) = one_or_none rule.range (tests rules) (length rules) (tests_few rules)

operator_within : (g : Grammar) (op kids : ℕ) → IsLawful g → HasOperator g op kids → op < most_operators
operator_within g op kids lawful h = let few = (lawful.within).operators in let w = slice_get_within g.operators op h.0 h.1 in omega arith

module _ (g : Grammar) (normal : NormalForm) (form : IsFormOf g normal) where
  head_within : (k : ℕ) (p : Pattern) → HeadAt g k p → head k p < normal.nonterminals
  head_within k (Leaf n) h = let e = form.nonterminals in omega arith
  head_within k (Nullary op) (j, is, at) = let e = form.nonterminals in let w = slice_get_within (places g.rules) j (Nullary op) at in omega arith
  head_within k (Unary' op s (more_of-Pattern p end_of-Pattern)) (j, is, at) =
      let e = form.nonterminals in let w = slice_get_within (places g.rules) j (Unary' op s (more_of-Pattern p end_of-Pattern)) at in omega arith
  head_within k (Binary' op s (more_of-Pattern p end_of-Pattern) s' (more_of-Pattern q end_of-Pattern)) (j, is, at) =
      let e = form.nonterminals in let w = slice_get_within (places g.rules) j (Binary' op s (more_of-Pattern p end_of-Pattern) s' (more_of-Pattern q end_of-Pattern)) at in omega arith

  body_within : (k : ℕ) (test : Option ℕ) (p : Pattern) → IsLawful g → IsPatternOf g p → BodyAt g k p → IsWithin (length normal.tests) test → IsBodyWithin normal (body k test p)
  body_within k test (Leaf n) lawful low h t = let e = form.nonterminals in omega arith
  body_within k test (Nullary op) lawful low h t = (tt, tt, t, tt, operator_within g op 0 lawful low)
  body_within k test (Unary' op s (more_of-Pattern p end_of-Pattern)) lawful low h t = (head_within k p h, tt, t, tt, operator_within g op 1 lawful low.0)
  body_within k test (Binary' op s (more_of-Pattern p end_of-Pattern) s' (more_of-Pattern q end_of-Pattern)) lawful low h t =
      (head_within k p h.0, head_within (k + length (parts p)) q h.1, t, tt, operator_within g op 2 lawful low.0)

  test_within : (j : ℕ) (range : Option Range) → range_at normal.tests (test_number j range) ≡ range → IsWithin (length normal.tests) (test_number j range)
  test_within j None h = tt
  test_within j (Some r) h = slice_get_within normal.tests j r h

  user_within : IsLawful g → (r : ℕ) (rule : Rule) (nr : NormalRule) → rule_at g r ≡ Some rule → CutUser g normal rule nr → IsRuleWithin normal nr
  user_within h r rule nr at c =
      subst (IsRuleWithin normal) (sym c.is)
      (record {
        left = (let l = rule_left g r rule h at in let e = form.nonterminals in omega arith);
        body = body_within c.number (test_number c.test rule.range) rule.pattern h (pattern_low g h r rule at) c.below (test_within c.test rule.range c.range);
      })

  helper_within : IsLawful g → (j : ℕ) (part : Pattern) (nr : NormalRule) → slice_get (places g.rules) j ≡ Some part → CutHelper g j part nr → IsRuleWithin normal nr
  helper_within h j part nr at c =
      subst (IsRuleWithin normal) (sym c.is)
      (record {
        left = (let w = slice_get_within (places g.rules) j part at in let e = form.nonterminals in omega arith);
        body = body_within (length g.nonterminals + j + 1) None part h c.low c.below tt;
      })

  pub rules_long : length normal.rules ≡ length g.rules + length (places g.rules)
  rules_long =
      ap length form.rules ∙ length-append (cut_rules (length g.nonterminals) 0 g.rules) (helper_rules (length g.nonterminals) (places g.rules))
      ∙ (λ i. cut_long g (length g.nonterminals) 0 g.rules i + helpers_long (length g.nonterminals) (places g.rules) i)

  pub IsStanding-form : IsLawful g → HasFew g → IsStanding normal
  IsStanding-form h few = record {
    some_nonterminal = (let w = h.within in let s = w.start in let e = form.nonterminals in omega arith);
    few_nonterminals = (let e = form.nonterminals in omega arith);
    few_rules = (let w = h.within in let r = w.rules in omega (arith, rules_long));
    few_tests = (let w = h.within in let r = w.rules in let e = ap length form.tests in let few = tests_few g.rules in omega arith);
    user_rules = (let e = form.user_rules in omega (arith, rules_long));
    within = λ r nr at. within r nr ((form_cut g normal h form).back r nr at);
  }
    where
      within : (r : ℕ) (nr : NormalRule)
          → ((rule : Rule) × (rule_at g r ≡ Some rule) × CutUser g normal rule nr)
          ⊎ ((j : ℕ) × (part : Pattern) × (slice_get (places g.rules) j ≡ Some part) × (r ≡ length g.rules + j + 1) × CutHelper g j part nr) → IsRuleWithin normal nr
      within r nr (inl (rule, at, c)) = user_within h r rule nr at c
      within r nr (inr (j, part, at, e, c)) = helper_within h j part nr at c

-- a rule's number is its place plus 1
pub normal_at_place : (normal : NormalForm) (r : ℕ) (rule : NormalRule) → 1 ≤ r → slice_get normal.rules (r - 1) ≡ Some rule → normal_at normal r ≡ Some rule
normal_at_place normal zero rule h at = absurd (omega arith)
normal_at_place normal (suc k) rule h at = ap (slice_get normal.rules) (let e : k ≡ suc k - 1 = omega arith in e) ∙ at

-- a lawful grammar's form stands
pub lawful_forms_stand : LawfulFormsStand
lawful_forms_stand g normal lawful accepted form = IsStanding-form g normal form lawful accepted.few
