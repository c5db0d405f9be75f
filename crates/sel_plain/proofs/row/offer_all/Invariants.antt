use Rattle.std.proofs.Common.{◌≡◌, ◌<◌, true, false, length}
use Rattle.sel_plain.specs.declared.kind.RuleKind.TheVariants.{Operator}
use Rattle.sel_plain.specs.Bettering.{Keeps, total_distance, KeepsBacked}
use Rattle.sel_plain.proofs.Turns.{KindTo}
use Rattle.sel_plain.proofs.row.offer_all.Given as goal

abbrev pub invariant-loop-k : goal.invariant-loop-k
invariant-loop-k l = record {
  long : length l.row ≡ length l.initial.row;
  stays : l.changed ≡ false → l.row ≡ l.initial.row;
  withstood : l.changed ≡ false → KindTo l.grammar l.nodes l.table.rows l.at l.kind l.k l.row;
  operators : l.kind ≡ Operator → KindTo l.grammar l.nodes l.table.rows l.at Operator l.k l.row;
  falls : l.changed ≡ true → total_distance l.row < total_distance l.initial.row;
  keeps : Keeps l.initial.row l.row;
  backed : KeepsBacked l.grammar l.nodes l.table.rows l.at l.initial.row l.row;
}
