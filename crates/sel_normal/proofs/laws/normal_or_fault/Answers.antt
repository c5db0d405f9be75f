use Rattle.sel_normal.proofs.OneFault.{normal_fault_is_one, not_accepted_and_fault}
use Rattle.sel_normal.proofs.SomeFault.{accepted_or_fault}
use Rattle.sel_normal.proofs.laws.normal_or_fault.Goals as goal

pub returns : goal.returns
returns c = record { fault_is_one = normal_fault_is_one; not_both = not_accepted_and_fault; some = accepted_or_fault }
