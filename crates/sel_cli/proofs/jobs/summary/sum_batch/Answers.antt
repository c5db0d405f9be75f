use Rattle.std.proofs.Common.{◌≡◌, ◌+◌, length, subst, sym, arith}
use Rattle.sel_work.specs.declared.answer.Goal.TheVariants as goals
use Rattle.sel_crew.specs.Crews.{grammar_of}
use Rattle.sel_crew.specs.Answers.{AreAnswersOf}
use Rattle.sel_cli.proofs.Batches.{answers_count}
use Rattle.sel_cli.proofs.Going.{answered_more}
use Rattle.sel_cli.proofs.Summaries.{sums_more}
use Rattle.sel_cli.proofs.jobs.summary.sum_batch.Goals as goal

pub with_all-requires-clause-few : goal.with_all-requires-clause-few
with_all-requires-clause-few g c =
    let count = answers_count (grammar_of c.args.crew.now) goals.Cover c.args.batch.now c.as_slice.result.now
    (subst (λ l. AreAnswersOf (grammar_of c.args.crew.now) goals.Cover c.args.batch.now l) (sym c.as_slice.ensures) c.in_ok-answers.ensures.answers) in
    let few = c.requires.few in
    omega (arith, count, few)

pub returns-clause-summed : goal.returns-clause-summed
returns-clause-summed g c = λ given sums.
    sums_more (grammar_of c.args.crew.now) given c.args.batch.now c.as_slice.result.now c.args.sums c.with_all.result c.requires.trees sums
    (subst (λ l. AreAnswersOf (grammar_of c.args.crew.now) goals.Cover c.args.batch.now l) (sym c.as_slice.ensures) c.in_ok-answers.ensures.answers) c.with_all.ensures

pub returns-clause-answered : goal.returns-clause-answered
returns-clause-answered g c =
    answered_more c.args.batch.now c.args.crew.now c.answer.new.self c.in_ok-answers.ensures.crew c.in_ok-answers.ensures.begun c.in_ok-answers.ensures.asked c.in_ok-answers.ensures.answered c.in_ok-answers.ensures.counted
