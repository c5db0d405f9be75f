-- The rules so far are kept, and the one at which the loop stops isn't.
use Rattle.std.proofs.Common.{◌≡◌, ◌<◌, length, refl, ap, subst, arith, slice_index_or}
use Rattle.std.specs.Prelude.{IsTrue}
use Rattle.std.proofs.lemmas.Option.{slice_get_read, slice_get_within}
use Rattle.sel_check.proofs.ByNodes.{kept_more}
use Rattle.sel_check.proofs.bounds.keeps_rules.Goals as goal

pub keeps_rule-requires-clause-names : goal.keeps_rule-requires-clause-names
keeps_rule-requires-clause-names c =
    let e = c.as_slice-rule-items.ensures in
    let lt = subst (λ x. c.loop-rule.rule-index < length x) e c.loop-rule-test.true in
    let is = subst (λ x. c.rule-item.result ≡ slice_index_or x c.loop-rule.rule-index c.rule-item.result) e c.rule-item.is in
    (c.requires.lawful.rules c.loop-rule.rule-index c.rule-item.result (slice_get_read c.args.grammar.now.rules (length c.args.grammar.now.rules) c.loop-rule.rule-index c.rule-item.result refl lt is)).names

pub returns-then-not-keeps_rule : goal.returns-then-not-keeps_rule
returns-then-not-keeps_rule c =
    let e = c.as_slice-rule-items.ensures in
    let lt = subst (λ x. c.loop-rule.rule-index < length x) e c.loop-rule-test.true in
    let is = subst (λ x. c.rule-item.result ≡ slice_index_or x c.loop-rule.rule-index c.rule-item.result) e c.rule-item.is in (
      λ h. cc,
      λ w. subst IsTrue c.if-not-keeps_rule.true (c.keeps_rule.ensures.1
          (w c.loop-rule.rule-index c.rule-item.result (slice_get_read c.args.grammar.now.rules (length c.args.grammar.now.rules) c.loop-rule.rule-index c.rule-item.result refl lt is))),
    )

pub loop-rule-preserved : goal.loop-rule-preserved
loop-rule-preserved c =
    let e = c.as_slice-rule-items.ensures in
    let lt = subst (λ x. c.loop-rule.rule-index < length x) e c.loop-rule-test.true in
    let is = subst (λ x. c.rule-item.result ≡ slice_index_or x c.loop-rule.rule-index c.rule-item.result) e c.rule-item.is in
    let yes : IsTrue c.keeps_rule.result = c.if-not-keeps_rule.false in
    kept_more c.args.grammar.now c.args.nodes.now c.args.costs.now c.args.at c.loop-rule.rule-index c.rule-item.result
    (slice_get_read c.args.grammar.now.rules (length c.args.grammar.now.rules) c.loop-rule.rule-index c.rule-item.result refl lt is)
    c.loop-rule.invariant (c.keeps_rule.ensures.0 yes)

pub returns : goal.returns
returns c =
    let long = ap length c.as_slice-rule-items.ensures in
    let end = c.loop-rule-test.false in
    (λ h k rule at. c.loop-rule.invariant k rule (let l = slice_get_within c.args.grammar.now.rules k rule at in omega arith) at, λ h. refl)
