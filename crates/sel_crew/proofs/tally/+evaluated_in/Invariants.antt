use Rattle.std.proofs.Common.{length}
use Rattle.sel_crew.proofs.tally.+evaluated_in.Given as goal

abbrev pub decreases-evaluated_in : goal.decreases-evaluated_in
decreases-evaluated_in l = length l.parts.now
