use Rattle.sel_full.proofs.OneBuild.{complete_is_one}
use Rattle.sel_full.proofs.laws.complete_is_one.Goals as goal

pub returns : goal.returns
returns c = complete_is_one
