use Rattle.sel_closing.proofs.Adding.{untabled_add_up, stopped_counts_add_up}
use Rattle.sel_closing.proofs.laws.untabled_add_up.Goals as goal

pub returns : goal.returns
returns c = record { exact = untabled_add_up; stopped = stopped_counts_add_up }
