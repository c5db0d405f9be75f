use Rattle.std.proofs.Common.{◌≡◌}
use Rattle.sel_rows.specs.Told.{told_of_pass}
use Rattle.sel_rows_threads.proofs.speed.measure.Given as goal

abbrev pub invariant-turns : goal.invariant-turns
invariant-turns g l = record {
  own_normal : (l.own).normal ≡ l.normal;
  pass_normal : (told_of_pass l.pass).normal ≡ l.normal;
}
