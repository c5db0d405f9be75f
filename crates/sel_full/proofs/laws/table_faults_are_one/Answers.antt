use Rattle.sel_full.proofs.Formed.{table_fault_is_one, lawful_has_no_fault}
use Rattle.sel_full.proofs.laws.table_faults_are_one.Goals as goal

pub returns : goal.returns
returns c = record { one = table_fault_is_one; lawful = lawful_has_no_fault }
