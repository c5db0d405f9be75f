use Rattle.std.proofs.Common.{subst, sym}
use Rattle.sel_count.specs.Things.{AreValid}
use Rattle.sel_cli.proofs.Going.{answered_more, on_ok}
use Rattle.sel_cli.proofs.jobs.each_tree.write_batch.Goals as goal

pub answer-requires-clause-trees : goal.answer-requires-clause-trees
answer-requires-clause-trees g c = λ κs lives. subst (λ x. AreValid x c.args.batch.now) (sym c.requires.grammar) c.requires.trees

pub returns-in-Ok-clause-answered : goal.returns-in-Ok-clause-answered
returns-in-Ok-clause-answered g c =
    on_ok _ c.write_told.result
    (answered_more c.args.batch.now c.args.crew.now c.answer.new.self c.in-Ok.ensures.crew c.in-Ok.ensures.begun c.in-Ok.ensures.asked c.in-Ok.ensures.answered c.in-Ok.ensures.counted)
