use Rattle.std.proofs.Common.{length, ◌≡◌, ◌+◌, vec_len}
use Rattle.sel_rows.specs.Parts.{AreFresh}
use Rattle.sel_rows.specs.Tables.{ArePartsOf}
use Rattle.sel_crew.specs.Crews.{lasting_at, AreNewPlaces}
use Rattle.sel_crew.proofs.making.place_all.Given as goal

abbrev pub invariant-parts : goal.invariant-parts
invariant-parts l = record {
  of : ArePartsOf l.rows l.parts.items;
  fresh : AreFresh l.parts.items;
  new : AreNewPlaces l.rows (lasting_at l.places.items);
  long : length l.places.items + length l.parts.items ≡ length l.fn.parts;
}

abbrev pub decreases-parts : goal.decreases-parts
decreases-parts l = vec_len l.parts
