use Rattle.std.proofs.Common.{[], ◌+◌, ◌-◌, ◌≡◌, ℕ, ◌<◌, ◌≤◌, length}
use Rattle.std.specs.Prelude.{slice_index}
use Rattle.sel_law.specs.Words.{In}
use Rattle.sel_law.specs.Kinds.{HeldNumber, OneNumber}
use Rattle.sel_rows.specs.Grown.{Grown, KeepsOwn}
use Rattle.sel_rows.specs.Held.{held_entry}
use Rattle.sel_rows.proofs.hand.Hand.differs.Given as goal

abbrev pub ghosts-entry : goal.ghosts-entry
ghosts-entry g a = record { asks = g.J.Doing.asks; number = a.number; index = a.index; key = 0; ask = record { operator = 0; class = 0; kids = [] } }

abbrev pub invariant-loop-index : goal.invariant-loop-index
invariant-loop-index g l = record {
  same : l.self.rows ≡ l.fn.self.rows;
  grown : Grown g.J.Doing.asks l.fn.self.seat.me.0 l.self.seat.me.0;
  own : KeepsOwn l.fn.self.seat.me.0 l.self.seat.me.0;
  held : HeldNumber l.self.seat.me.0 l.number;
  equal : (i : ℕ) → i < l.index → In (l.number, i, slice_index l.items i) l.self.seat.me.0.contents;
  first : (i : ℕ) → i < l.index → held_entry l.self.seat.me.0.contents l.number i ≡ slice_index l.items i;
  numbers : 1 ≤ l.index → OneNumber l.self.seat.me.0;
  count : (l.self.seat.me.0.steps ≤ l.fn.self.seat.me.0.steps + l.index) × (l.index ≤ length l.items);
}

abbrev pub decreases-loop-index : goal.decreases-loop-index
decreases-loop-index g l = length l.items - l.index
