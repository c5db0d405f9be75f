use Rattle.std.proofs.Common.{[], ◌≡◌, ◌+◌, ◌≤◌, ◌⊎◌, vec_len}
use Rattle.sel_law.specs.Words.{In}
use Rattle.sel_rows.specs.declared.part.PassPart.{PassPart}
use Rattle.sel_rows.specs.Parts.{AllOf, AskedIn, Within, seats_of}
use Rattle.sel_law.specs.declared.Ask.{Ask}
use Rattle.sel_rows.proofs.closing.join_all.Given as goal

abbrev pub invariant-loop-part : goal.invariant-loop-part
invariant-loop-part l = record {
  of : (l.seat.table_id ≡ l.rows.table.shared.table_id) × (l.seat.me.1 ≡ []) × (1 ≤ l.seat.me.0.seats);
  parts : AllOf l.rows.table.shared.table_id l.rows.table.shared.key l.parts.items;
  seats : l.seat.me.0.seats + seats_of l.parts.items ≡ l.fn.first.me.0.seats + seats_of l.initial.parts.items;
  first : Within l.fn.first.me.0 l.seat.me.0;
  within : (p : PassPart) → In p l.initial.parts.items → In p l.parts.items ⊎ Within p.seat.me.0 l.seat.me.0;
  rest : (p : PassPart) → In p l.parts.items → In p l.initial.parts.items;
  only : (b : Ask) → In b l.seat.me.0.asked → AskedIn l.fn.first.me.0 l.initial.parts.items b;
}

abbrev pub decreases-loop-part : goal.decreases-loop-part
decreases-loop-part l = vec_len l.parts
