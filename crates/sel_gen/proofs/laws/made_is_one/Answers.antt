use Rattle.sel_gen.proofs.OneForest.{made_one_forest}
use Rattle.sel_gen.proofs.laws.made_is_one.Goals as goal

pub returns : goal.returns
returns c = made_one_forest
