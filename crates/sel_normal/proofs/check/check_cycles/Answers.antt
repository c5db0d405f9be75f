-- No rule up to here stands on a cycle.
use Rattle.std.proofs.Common.{◌≡◌, ◌+◌, ◌<◌, ◌≤◌, ◌⊎◌, inl, inr, ℕ, suc, refl, sym, ap, ◌∙◌, Some, length, slice_get, arith}
use Rattle.std.specs.Prelude.{IsTrue}
use Rattle.std.proofs.lemmas.Option.{slice_get_read}
use Rattle.sel_grammar.specs.declared.refusal.GrammarFault.{GrammarFault}
use Rattle.sel_grammar.specs.Chains.{FreeWalk}
use Rattle.sel_grammar.specs.Limits.{zero_cycle}
use Rattle.sel_normal.specs.NormalFaults.{NormalRefusedFor}
use Rattle.sel_normal.specs.Reach.{IsFreeChain, Leads}
use Rattle.sel_normal.proofs.Faulty.{AreFreeTo, LeadsBack, free_more, free_all, zero_cycle_at, bits_lead, lead_bits, untrue_at}
use Rattle.sel_normal.proofs.Rests.{told_fault}
use Rattle.sel_normal.proofs.Steps.{target_within}
use Rattle.sel_normal.proofs.check.check_cycles.Goals as goal

pub stands_on_cycle-requires : goal.stands_on_cycle-requires
stands_on_cycle-requires c =
    let g = c.args.grammar.now in
    let k = c.loop-rule.rule-index in
    let rule = c.rule-item.result in
    let at : slice_get g.rules k ≡ Some rule = ap (λ xs. slice_get xs k) (sym c.as_slice-rule-items.ensures) ∙ slice_get_read c.as_slice-rule-items.result.now _ k rule refl c.loop-rule-test.true c.rule-item.is in
    let left = c.requires.lawful.within.lefts k rule at in
    let few = c.requires.lawful.within.nonterminals in
    let long = c.requires.long in
    record {
      left = omega arith;
      target = λ m is. (let w = target_within g rule m (c.requires.lawful.rules k rule at) is.0 in omega arith);
    }

pub returns-then-stands_on_cycle-clause-fault : goal.returns-then-stands_on_cycle-clause-fault
returns-then-stands_on_cycle-clause-fault c =
    let g = c.args.grammar.now in
    let k = c.loop-rule.rule-index in
    let rule = c.rule-item.result in
    let at : slice_get g.rules k ≡ Some rule = ap (λ xs. slice_get xs k) (sym c.as_slice-rule-items.ensures) ∙ slice_get_read c.as_slice-rule-items.result.now _ k rule refl c.loop-rule-test.true c.rule-item.is in
    told_fault g _ _ c.fault_at.ensures
    (zero_cycle_at g k rule (record { kind = zero_cycle; line = rule.line; column = rule.column }) at c.requires.few c.loop-rule.invariant
    (bits_lead g rule (Leads c.args.leads.now) c.requires.leads (c.stands_on_cycle.ensures.0 (c.if-stands_on_cycle.true))) refl)

pub loop-rule-preserved : goal.loop-rule-preserved
loop-rule-preserved c =
    let g = c.args.grammar.now in
    let k = c.loop-rule.rule-index in
    let rule = c.rule-item.result in
    let at : slice_get g.rules k ≡ Some rule = ap (λ xs. slice_get xs k) (sym c.as_slice-rule-items.ensures) ∙ slice_get_read c.as_slice-rule-items.result.now _ k rule refl c.loop-rule-test.true c.rule-item.is in
    free_more g k rule at c.loop-rule.invariant (λ back. untrue_at _ c.if-stands_on_cycle.false (c.stands_on_cycle.ensures.1 (lead_bits g rule (Leads c.args.leads.now) c.requires.leads back)))

pub returns-clause-free : goal.returns-clause-free
returns-clause-free c =
    let long : length c.as_slice-rule-items.result.now ≡ length c.args.grammar.now.rules = ap length c.as_slice-rule-items.ensures in
    let h = c.loop-rule-test.false in
    free_all c.args.grammar.now c.loop-rule.rule-index (omega arith) c.loop-rule.invariant
