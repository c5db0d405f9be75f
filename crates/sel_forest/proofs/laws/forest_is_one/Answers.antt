use Rattle.sel_forest.proofs.OneForest.{forest_one}
use Rattle.sel_forest.proofs.laws.forest_is_one.Goals as goal

pub returns : goal.returns
returns c = forest_one
