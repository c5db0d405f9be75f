use Rattle.sel_full.proofs.StateKeys.{trees_are_ready}
use Rattle.sel_full.proofs.laws.trees_are_ready.Goals as goal

pub returns : goal.returns
returns c = trees_are_ready
