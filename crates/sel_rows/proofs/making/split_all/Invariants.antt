use Rattle.std.proofs.Common.{length, ◌≡◌, ◌+◌}
use Rattle.sel_rows.specs.Parts.{IsNew, AreFresh}
use Rattle.sel_rows.specs.Tables.{IsPartOf, ArePartsOf}
use Rattle.sel_rows.proofs.making.split_all.Given as goal

abbrev pub invariant-loop-left : goal.invariant-loop-left
invariant-loop-left l = record {
  first : IsPartOf l.rows l.first;
  first_new : IsNew l.first;
  seats : (l.first.seat.me.0.seats ≡ 1) × (l.first.seat.me.0.rest ≡ l.left);
  parts : ArePartsOf l.rows l.parts.items;
  fresh : AreFresh l.parts.items;
  long : length l.parts.items + 1 + l.left ≡ l.workers;
}

abbrev pub decreases-loop-left : goal.decreases-loop-left
decreases-loop-left l = l.left
