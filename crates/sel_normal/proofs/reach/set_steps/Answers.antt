-- The rules add the steps that they are.
use Rattle.std.proofs.Common.{◌≡◌, ◌<◌, ◌≤◌, ◌⊎◌, ℕ, refl, sym, ap, ◌∙◌, Some, length, slice_get, arith}
use Rattle.std.proofs.lemmas.Option.{slice_get_read, slice_get_within}
use Rattle.sel_normal.specs.Reach.{IsFreeChain, Leads}
use Rattle.sel_normal.proofs.Steps.{steps_more, steps_all, no_steps, target_within}
use Rattle.sel_normal.proofs.reach.set_steps.Goals as goal

pub set_step-requires : goal.set_step-requires
set_step-requires c =
    let g = c.args.grammar.now in
    let k = c.loop-rule.rule-index in
    let rule = c.rule-item.result in
    let items = c.as_slice-rule-items.ensures in
    let at : slice_get g.rules k ≡ Some rule = ap (λ xs. slice_get xs k) (sym items) ∙ slice_get_read c.as_slice-rule-items.result.now _ k rule refl c.loop-rule-test.true c.rule-item.is in
    let few = c.requires.lawful.within.nonterminals in
    let left = c.requires.lawful.within.lefts k rule at in
    let long = c.requires.long in
    let same = c.loop-rule.auto.rows in
    record {
      left = omega arith;
      target = λ m is. (let w = target_within g rule m (c.requires.lawful.rules k rule at) is in omega arith);
    }

pub loop-rule-preserved : goal.loop-rule-preserved
loop-rule-preserved c =
    let g = c.args.grammar.now in
    let k = c.loop-rule.rule-index in
    let rule = c.rule-item.result in
    let items = c.as_slice-rule-items.ensures in
    let at : slice_get g.rules k ≡ Some rule = ap (λ xs. slice_get xs k) (sym items) ∙ slice_get_read c.as_slice-rule-items.result.now _ k rule refl c.loop-rule-test.true c.rule-item.is in
    steps_more g k rule (Leads c.args.rows.now) (Leads c.loop-rule.rows) (Leads c.set_step.new.rows) at c.loop-rule.invariant c.set_step.ensures

pub returns : goal.returns
returns c =
    let long : length c.as_slice-rule-items.result.now ≡ length c.args.grammar.now.rules = ap length c.as_slice-rule-items.ensures in
    let h = c.loop-rule-test.false in
    steps_all c.args.grammar.now c.loop-rule.rule-index (Leads c.args.rows.now) (Leads c.loop-rule.rows) (omega arith) c.loop-rule.invariant
