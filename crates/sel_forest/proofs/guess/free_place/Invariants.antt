use Rattle.std.proofs.Common.{◌<◌}
use Rattle.sel_forest.specs.Guesses.{guess_places}
use Rattle.sel_forest.proofs.guess.free_place.Given as goal

abbrev pub invariant-places : goal.invariant-places
invariant-places l = l.at < guess_places
