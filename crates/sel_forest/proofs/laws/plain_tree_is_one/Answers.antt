use Rattle.sel_forest.proofs.Roots.{plain_one}
use Rattle.sel_forest.proofs.laws.plain_tree_is_one.Goals as goal

pub returns : goal.returns
returns c = plain_one
