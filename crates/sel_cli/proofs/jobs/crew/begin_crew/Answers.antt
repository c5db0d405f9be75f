use Rattle.std.proofs.Common.{refl}
use Rattle.sel_cli.proofs.Going.{begun_ok}
use Rattle.sel_cli.proofs.jobs.crew.begin_crew.Goals as goal

pub returns : goal.returns
returns c = begun_ok c.args.accepted.now.grammar c.args.settings c.args.accepted.now.normal _ c.begin.result refl c.begin.ensures.crew c.begin.ensures.begun c.begin.ensures.asked c.begin.ensures.kept c.begin.ensures.counted
