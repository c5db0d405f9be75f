use Rattle.sel_table.proofs.OneTable.{complete_is_loaded}
use Rattle.sel_table.proofs.laws.complete_is_loaded.Goals as goal

pub returns : goal.returns
returns c = complete_is_loaded
