use Rattle.sel_forest.proofs.OneFault.{not_forest_and_fault}
use Rattle.sel_forest.proofs.laws.not_forest_and_fault.Goals as goal

pub returns : goal.returns
returns c = not_forest_and_fault
