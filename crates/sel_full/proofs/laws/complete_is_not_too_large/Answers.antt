use Rattle.sel_full.proofs.Exclusion.{complete_is_not_too_large}
use Rattle.sel_full.proofs.laws.complete_is_not_too_large.Goals as goal

pub returns : goal.returns
returns c = complete_is_not_too_large
