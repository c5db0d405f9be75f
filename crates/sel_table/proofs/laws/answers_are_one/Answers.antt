use Rattle.sel_table.proofs.OneTable.{spelled_is_one, load_fault_is_one, loaded_has_no_fault}
use Rattle.sel_table.proofs.laws.answers_are_one.Goals as goal

pub returns : goal.returns
returns c = record { table = spelled_is_one; fault = load_fault_is_one; never_both = loaded_has_no_fault }
