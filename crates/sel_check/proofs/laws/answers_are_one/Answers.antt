use Rattle.sel_check.proofs.OneAnswer.{fault_is_one, no_fault_is_proved, proved_costs_are_one}
use Rattle.sel_check.proofs.laws.answers_are_one.Goals as goal

pub returns : goal.returns
returns c = record { costs = proved_costs_are_one; fault = fault_is_one; never_both = no_fault_is_proved }
