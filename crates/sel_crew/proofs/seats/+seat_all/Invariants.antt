use Rattle.std.proofs.Common.{length}
use Rattle.sel_crew.proofs.seats.+seat_all.Given as goal

abbrev pub decreases-seat_all : goal.decreases-seat_all
decreases-seat_all l = length l.places.now
