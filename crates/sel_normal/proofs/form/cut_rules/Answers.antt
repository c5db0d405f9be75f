-- One user rule more.
use Rattle.std.proofs.Common.{◌≡◌, ◌+◌, ◌++◌, ◌≤◌, ℕ, [], ◌∷◌, arith, length, refl, sym, ap, ◌∙◌, slice_get}
use Rattle.sel_grammar.specs.declared.grammar.Rule.{Rule}
use Rattle.sel_normal.specs.declared.normal.Body.{Body}
use Rattle.sel_normal.specs.declared.normal.NormalRule.{NormalRule}
use Rattle.sel_normal.specs.Forms.{places, inner_parts, some_range, test_number, body, cut_rules}
use Rattle.sel_normal.proofs.Rests.{AreRulesOf, first_lawful, rest_lawful, places_long, one_rule_more}
use Rattle.sel_normal.proofs.form.cut_rules.Goals as goal

-- a normal rule with the left side and the cost of the rule
abbrev made : Rule → Body → NormalRule
made rule b = record { left = rule.left; cost = rule.cost; body = b }

pub users-init : goal.users-init
users-init c =
    let w = c.requires.lawful.within in
    let same = c.as_slice-rest.ensures in
    let n = c.len-number.ensures in
    let few = c.requires.few in
    let r = w.rules in
    let l : length c.as_slice-rest.result.now ≡ length c.args.grammar.now.rules = ap length same in
    let p : length (places c.as_slice-rest.result.now) ≡ length (places c.args.grammar.now.rules) = ap (λ l. length (places l)) same in
    record {
      made = ap (λ l. l ++ cut_rules c.len-number.result 0 c.as_slice-rest.result.now) c.new-rules.ensures.items ∙ (λ i. cut_rules (n i) 0 (same i));
      few = omega arith;
      tests = omega arith;
      lawful = record { each = λ k rule at. c.requires.lawful.rules k rule (ap (λ l. slice_get l k) (sym same) ∙ at) };
    }

pub body-requires-clause-names : goal.body-requires-clause-names
body-requires-clause-names c = (first_lawful _ _ _ _ c.in-Some.ensures.cases.0 c.users.invariant.lawful).names

pub inner_count-number-requires : goal.inner_count-number-requires
inner_count-number-requires c = (first_lawful _ _ _ _ c.in-Some.ensures.cases.0 c.users.invariant.lawful).names

pub users-preserved : goal.users-preserved
users-preserved c =
    let is = c.in-Some.ensures.cases.0 in
    let i = c.users.invariant in
    let few = i.few in
    let tests = i.tests in
    let long = places_long _ _ _ is in
    let rest = ap length is in
    let more = c.inner_count-number.ensures.is in
    let test = c.test_count-test.ensures.few in
    record {
      made = one_rule_more c.users.number c.users.test _ _ _ _ _ _ _ _ is (ap (λ (x : ℕ). c.users.number + x) more) (ap (λ (x : ℕ). c.users.test + x) c.test_count-test.ensures.is)
          (c.in_ok-push.ensures.items ∙ ap (λ b. c.users.rules.items ++ made c.in-Some.rule.now b ∷ []) (c.body.ensures ∙ ap (λ t. body c.users.number t c.in-Some.rule.now.pattern) c.test_number.ensures)) i.made;
      few = omega arith;
      tests = omega arith;
      lawful = rest_lawful _ _ _ _ is i.lawful;
    }
