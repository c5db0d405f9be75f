use Rattle.sel_check.proofs.Certified.{printable, best_list}
use Rattle.sel_check.proofs.certificate.certify.Goals as goal

pub returns-clause-printable : goal.returns-clause-printable
returns-clause-printable c =
    let (t, postorder, small) = c.requires.tree in
    printable c.args.grammar.now t c.in_ok-costs.costs c.in_ok-answer.answer c.rules_of-rules.result c.requires.lawful.within c.in_ok-costs.ensures.small (c.in_ok-answer.ensures t postorder) c.rules_of-rules.ensures

pub returns-clause-rules : goal.returns-clause-rules
returns-clause-rules c = λ t postorder. best_list c.args.grammar.now t c.in_ok-answer.answer c.rules_of-rules.result (c.in_ok-answer.ensures t postorder) c.rules_of-rules.ensures
