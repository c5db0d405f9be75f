use Rattle.sel_forest.proofs.OneFault.{fault_one}
use Rattle.sel_forest.proofs.laws.forest_fault_is_one.Goals as goal

pub returns : goal.returns
returns c = fault_one
