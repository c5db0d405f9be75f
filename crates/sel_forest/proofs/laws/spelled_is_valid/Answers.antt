use Rattle.sel_forest.proofs.ForestLoop.{spelled_valid}
use Rattle.sel_forest.proofs.laws.spelled_is_valid.Goals as goal

pub returns : goal.returns
returns c = spelled_valid
