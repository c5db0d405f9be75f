use Rattle.std.proofs.Common.{[], subst}
use Rattle.sel_count.specs.Things.{AreValid}
use Rattle.sel_cli.specs.Crews.{SumsUpTrees}
use Rattle.sel_cli.proofs.Summaries.{nothing_made, made_does}
use Rattle.sel_cli.proofs.jobs.make.make.Goals as goal

pub returns-in-Err : goal.returns-in-Err
returns-in-Err g c = nothing_made c.args.accepted.now.grammar c.args.settings c.args.settings.seed c.args.settings.trees c.args.settings.size _ c.without.result c.without.ensures

pub returns-in-Err-new : goal.returns-in-Err-new
returns-in-Err-new g c = nothing_made c.args.accepted.now.grammar c.args.settings c.args.settings.seed c.args.settings.trees c.args.settings.size _ c.without-in-Err-new.result c.without-in-Err-new.ensures

pub returns-in-Err-sum_made : goal.returns-in-Err-sum_made
returns-in-Err-sum_made g c = nothing_made c.args.accepted.now.grammar c.args.settings c.args.settings.seed c.args.settings.trees c.args.settings.size _ c.without-in-Err-sum_made.result c.without-in-Err-sum_made.ensures

pub returns-in-Ok-sum_made : goal.returns-in-Ok-sum_made
returns-in-Ok-sum_made g c =
    let grammar = c.args.accepted.now.grammar in
    let made = c.in-Ok-sum_made.ensures.made in
    let trees = made.0 in
    made_does grammar c.args.settings c.args.settings.seed c.args.settings.trees c.args.settings.size trees _ _ c.write_summary.result.status c.write_summary.result.report (c.in-Ok-new.ensures.first trees made.1)
    (c.write_summary.ensures c.args.settings trees
    (subst (λ x. AreValid x trees) c.in-Ok.ensures.grammar_is made.3)
    (subst (λ x. SumsUpTrees x trees c.in-Ok-sum_made.sums) c.in-Ok.ensures.grammar_is made.2)
    (made.4 grammar c.args.settings [] c.in-Ok.ensures))
