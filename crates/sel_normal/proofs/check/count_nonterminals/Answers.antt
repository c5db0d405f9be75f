-- The count after one rule more.
use Rattle.std.proofs.Common.{◌≡◌, ◌+◌, ◌<◌, ◌≤◌, ℕ, suc, add-one, refl, sym, ap, ◌∙◌, Some, length, slice_get, arith}
use Rattle.std.proofs.lemmas.Option.{slice_get_read}
use Rattle.sel_grammar.specs.declared.refusal.GrammarFault.{GrammarFault}
use Rattle.sel_grammar.specs.Limits.{too_many, most_normal_nonterminals}
use Rattle.sel_normal.specs.NormalFaults.{nonterminals_to, NormalRefusedFor}
use Rattle.sel_normal.proofs.Faulty.{AreFewTo, few_none, few_more, nonterminals_more, nonterminals_all, too_many_at}
use Rattle.sel_normal.proofs.Rests.{told_fault}
use Rattle.sel_normal.proofs.check.count_nonterminals.Goals as goal

pub loop-rule-init : goal.loop-rule-init
loop-rule-init c =
    let n = c.len-count.ensures in
    let few = c.requires.within.nonterminals in
    record { count = omega arith; few = few_none c.args.grammar.now (omega arith) }

pub inner_count-count-requires : goal.inner_count-count-requires
inner_count-count-requires c =
    let k = c.loop-rule.rule-index in
    let at : slice_get c.args.grammar.now.rules k ≡ Some c.rule-item.result =
    ap (λ xs. slice_get xs k) (sym c.as_slice-rule-items.ensures) ∙ slice_get_read c.as_slice-rule-items.result.now _ k c.rule-item.result refl c.loop-rule-test.true c.rule-item.is in
    (c.requires.rules k c.rule-item.result at).names

pub returns-then-count-gt-MOST-clause-fault : goal.returns-then-count-gt-MOST-clause-fault
returns-then-count-gt-MOST-clause-fault c =
    let g = c.args.grammar.now in
    let k = c.loop-rule.rule-index in
    let rule = c.rule-item.result in
    let at : slice_get g.rules k ≡ Some rule = ap (λ xs. slice_get xs k) (sym c.as_slice-rule-items.ensures) ∙ slice_get_read c.as_slice-rule-items.result.now _ k rule refl c.loop-rule-test.true c.rule-item.is in
    let more = nonterminals_more g k rule at in
    let count = c.loop-rule.invariant.count in
    let inner = c.inner_count-count.ensures.is in
    let large = c.if-count-gt-MOST.true in
    told_fault g _ _ c.fault_at.ensures (too_many_at g k rule (record { kind = too_many; line = rule.line; column = rule.column }) at c.loop-rule.invariant.few (omega arith) refl)

pub loop-rule-preserved : goal.loop-rule-preserved
loop-rule-preserved c =
    let g = c.args.grammar.now in
    let k = c.loop-rule.rule-index in
    let rule = c.rule-item.result in
    let at : slice_get g.rules k ≡ Some rule = ap (λ xs. slice_get xs k) (sym c.as_slice-rule-items.ensures) ∙ slice_get_read c.as_slice-rule-items.result.now _ k rule refl c.loop-rule-test.true c.rule-item.is in
    let more = nonterminals_more g k rule at in
    let count = c.loop-rule.invariant.count in
    let inner = c.inner_count-count.ensures.is in
    let small = c.if-count-gt-MOST.false in
    let next : c.loop-rule.count + c.inner_count-count.result ≡ nonterminals_to g (suc k) = omega arith in
    record { count = next ∙ ap (nonterminals_to g) (sym (add-one k)); few = few_more g k c.loop-rule.invariant.few (omega arith) }

pub returns : goal.returns
returns c =
    let long : length c.as_slice-rule-items.result.now ≡ length c.args.grammar.now.rules = ap length c.as_slice-rule-items.ensures in
    let h = c.loop-rule-test.false in
    let all = nonterminals_all c.args.grammar.now c.loop-rule.rule-index (omega arith) in
    let count = c.loop-rule.invariant.count in
    let few = c.loop-rule.invariant.few.each c.loop-rule.rule-index (omega arith) in
    record { count = count ∙ all; few = omega arith; fault = tt }
