use Rattle.sel_full.specs.Starts.{AreStartsTo}
use Rattle.sel_full.proofs.places.starts_of.Given as goal

abbrev pub invariant-loop-operator : goal.invariant-loop-operator
invariant-loop-operator l = AreStartsTo l.normal l.states l.operator l.starts l.at
