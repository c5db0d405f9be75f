use Rattle.sel_check.proofs.Checking.{judged_kept, judged_proved, refusal_inside}
use Rattle.sel_check.proofs.checker.judged.Goals as goal

pub returns-in-Faulty : goal.returns-in-Faulty
returns-in-Faulty c = λ trees cs h count. judged_kept c.args.grammar.now trees cs c.args.verdict c.in-Faulty.fault c.args.tree.now c.args.certificate.now c.in-Faulty.is h

pub returns-in-Ok : goal.returns-in-Ok
returns-in-Ok c = λ trees cs h count.
    judged_proved c.args.grammar.now trees cs c.args.verdict c.in-Proved.costs c.push.new.self c.args.tree.now c.args.certificate.now c.in-Ok.cost c.in-Proved.is c.in_ok-push-in-Ok.ensures.ok c.in-Ok.ensures.ok h

pub placed-requires-clause-inside : goal.placed-requires-clause-inside
placed-requires-clause-inside c = refusal_inside c.args.grammar.now c.args.tree.now c.args.certificate.now c.in-Err.refusal c.in-Fault.fault c.in-Err.ensures.fault c.in-Fault.is
