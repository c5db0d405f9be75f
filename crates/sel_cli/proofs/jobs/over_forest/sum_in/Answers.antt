use Rattle.sel_cli.proofs.Serving.{sums_over}
use Rattle.sel_cli.proofs.jobs.over_forest.sum_in.Goals as goal

pub returns-in-Ok : goal.returns-in-Ok
returns-in-Ok g c = λ name.
    sums_over c.args.settings c.args.accepted.now.grammar name c.args.text.items c.in-Ok.forest _ _ c.sum_forest.result.status c.sum_forest.result.report c.in-Ok.ensures.spelled c.sum_forest.ensures
