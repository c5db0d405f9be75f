use Rattle.std.proofs.Common.{sym, subst}
use Rattle.sel_crew.specs.Gathering.{made_at, PutsMade}
use Rattle.sel_crew.proofs.Puts.{puts_both}
use Rattle.sel_crew.proofs.gathering.+gather.Goals as goal

pub returns-in-Some-clause-answers : goal.returns-in-Some-clause-answers
returns-in-Some-clause-answers t c =
    subst (λ ps. PutsMade (made_at ps) c.args.answers.now c.gather.new.answers) (sym c.in-Some.ensures.cases.0)
    (puts_both _ _ c.args.answers.now c.gather_one.new.answers c.gather.new.answers c.gather_one.ensures.answers c.gather.ensures.answers)
