use Rattle.sel_cli.proofs.Going.{told_of_ok}
use Rattle.sel_cli.proofs.jobs.crew.report_of.Goals as goal

pub returns : goal.returns
returns c = λ g settings trees valid h. told_of_ok g settings trees c.args.crew c.finish.result valid h c.finish.ensures.counted c.finish.ensures.whole c.finish.ensures.plain
