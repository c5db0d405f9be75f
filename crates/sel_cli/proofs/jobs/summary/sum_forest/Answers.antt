use Rattle.std.proofs.Common.{[], subst}
use Rattle.sel_cli.specs.Crews.{HasAnswered, SumsUpTrees}
use Rattle.sel_cli.proofs.Summaries.{nothing_summed}
use Rattle.sel_cli.proofs.jobs.summary.sum_forest.Goals as goal

pub returns-in-Err : goal.returns-in-Err
returns-in-Err g c = nothing_summed c.args.accepted.now.grammar c.args.settings c.args.forest.now.trees _ c.without.result c.without.ensures

pub returns-in-Ok-sum_batches : goal.returns-in-Ok-sum_batches
returns-in-Ok-sum_batches g c =
    let grammar = c.args.accepted.now.grammar in
    let trees = c.args.forest.now.trees in
    let same = c.as_slice.ensures in
    c.write_summary.ensures c.args.settings trees (c.forests_are_valid.ensures grammar c.args.forest.now c.requires.valid)
    (subst (λ l. SumsUpTrees grammar l c.in-Ok-sum_batches.sums) same (subst (λ x. SumsUpTrees x c.as_slice.result.now c.in-Ok-sum_batches.sums) c.in-Ok.ensures.grammar_is c.in-Ok-sum_batches.ensures.summed))
    (subst (λ l. HasAnswered grammar c.args.settings l c.sum_batches.new.crew) same (c.in-Ok-sum_batches.ensures.answered grammar c.args.settings [] c.in-Ok.ensures))

pub returns-in-Err-sum_batches : goal.returns-in-Err-sum_batches
returns-in-Err-sum_batches g c = nothing_summed c.args.accepted.now.grammar c.args.settings c.args.forest.now.trees _ c.without-in-Err-sum_batches.result c.without-in-Err-sum_batches.ensures
