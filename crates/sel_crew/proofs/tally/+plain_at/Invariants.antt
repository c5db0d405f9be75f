use Rattle.std.proofs.Common.{length}
use Rattle.sel_crew.proofs.tally.+plain_at.Given as goal

abbrev pub decreases-plain_at : goal.decreases-plain_at
decreases-plain_at l = length l.places.now
