use Rattle.std.proofs.Common.{◌≡◌}
use Rattle.sel_rows.specs.Told.{standing_of, told_of_pass}
use Rattle.sel_rows_cases.proofs.turns.take_turns.Given as goal

abbrev pub invariant-trees : goal.invariant-trees
invariant-trees g l = record {
  first_normal : (told_of_pass l.first).normal ≡ (l.accepted).normal;
  second_normal : (told_of_pass l.second).normal ≡ (l.accepted).normal;
  first_stands : standing_of l.first ≡ standing_of l.fn.first;
  second_stands : standing_of l.second ≡ standing_of l.fn.second;
}
