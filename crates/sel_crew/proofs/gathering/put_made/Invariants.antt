use Rattle.std.proofs.Common.{◌≡◌, ◌++◌, List, length, vec_len}
use Rattle.sel_crew.specs.declared.place.Made.{Made}
use Rattle.sel_crew.specs.Gathering.{AreBelow, PutsMade}
use Rattle.sel_crew.proofs.gathering.put_made.Given as goal

abbrev pub invariant-made : goal.invariant-made
invariant-made l = record {
  below : AreBelow (length l.answers) l.made.items;
  puts : (done : List Made) × (l.initial.made.items ≡ l.made.items ++ done) × PutsMade done l.initial.answers l.answers;
}

abbrev pub decreases-made : goal.decreases-made
decreases-made l = vec_len l.made
