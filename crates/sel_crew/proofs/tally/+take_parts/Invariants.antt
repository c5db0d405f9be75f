use Rattle.std.proofs.Common.{length}
use Rattle.sel_crew.proofs.tally.+take_parts.Given as goal

abbrev pub decreases-take_parts : goal.decreases-take_parts
decreases-take_parts l = length l.places.now
