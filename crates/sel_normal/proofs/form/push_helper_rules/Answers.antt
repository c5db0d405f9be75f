-- The helpers of one rule more.
use Rattle.std.proofs.Common.{◌≡◌, ◌+◌, ◌++◌, ◌≤◌, ℕ, arith, length, refl, sym, ap, ◌∙◌, slice_get}
use Rattle.sel_normal.specs.Forms.{places, inner_parts, helper_rules}
use Rattle.sel_normal.proofs.Rests.{AreRulesOf, first_lawful, rest_lawful, places_long, rule_helpers_more}
use Rattle.sel_normal.proofs.form.push_helper_rules.Goals as goal

pub helpers-init : goal.helpers-init
helpers-init c =
    let same = c.as_slice-rest.ensures in
    let n = c.len-number.ensures in
    let few = c.requires.few in
    let p : length (places c.as_slice-rest.result.now) ≡ length (places c.args.grammar.now.rules) = ap (λ l. length (places l)) same in
    record {
      made = λ i. c.args.rules.now.items ++ helper_rules (n i) (places (same i));
      few = omega arith;
      lawful = record { each = λ k rule at. c.requires.lawful.rules k rule (ap (λ l. slice_get l k) (sym same) ∙ at) };
    }

pub push_inner_helpers-requires-clause-names : goal.push_inner_helpers-requires-clause-names
push_inner_helpers-requires-clause-names c = (first_lawful _ _ _ _ c.in-Some.ensures.cases.0 c.helpers.invariant.lawful).names

pub push_inner_helpers-requires-clause-few : goal.push_inner_helpers-requires-clause-few
push_inner_helpers-requires-clause-few c =
    let few = c.helpers.invariant.few in
    let long = places_long _ _ _ c.in-Some.ensures.cases.0 in
    omega arith

pub helpers-preserved : goal.helpers-preserved
helpers-preserved c =
    let is = c.in-Some.ensures.cases.0 in
    let i = c.helpers.invariant in
    let few = i.few in
    let long = places_long _ _ _ is in
    let behind = c.in_ok-number.ensures.behind in
    record {
      made = rule_helpers_more c.helpers.number _ _ _ _ _ _ _ is behind c.in_ok-number.ensures.rules i.made;
      few = omega arith;
      lawful = rest_lawful _ _ _ _ is i.lawful;
    }
