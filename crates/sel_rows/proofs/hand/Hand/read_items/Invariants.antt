use Rattle.std.proofs.Common.{◌-◌, ◌≡◌, ◌≤◌, map, take}
use Rattle.sel_items.specs.Unpacking.{unpacked}
use Rattle.sel_law.specs.Kinds.{HeldNumber}
use Rattle.sel_rows.specs.Held.{held_content}
use Rattle.sel_rows.specs.Grown.{Grown, KeepsOwn}
use Rattle.sel_rows.proofs.hand.Hand.read_items.Given as goal

abbrev pub ghosts-entry : goal.ghosts-entry
ghosts-entry g a = record { asks = g.J.Doing.asks; number = a.number; index = a.index; key = 0; ask = g.J.Doing.ask }

abbrev pub invariant-loop-index : goal.invariant-loop-index
invariant-loop-index g l = record {
  same : l.self.rows ≡ l.fn.self.rows;
  grown : Grown g.J.Doing.asks l.fn.self.seat.me.0 l.self.seat.me.0;
  own : KeepsOwn l.fn.self.seat.me.0 l.self.seat.me.0;
  held : HeldNumber l.self.seat.me.0 l.number;
  within : l.index ≤ l.self.rows.now.width;
  read : l.entries.items ≡ map unpacked (take l.index (held_content l.fn.self.seat.me.0 l.number));
}

abbrev pub decreases-loop-index : goal.decreases-loop-index
decreases-loop-index g l = l.self.rows.now.width - l.index
