use Rattle.std.proofs.Common.{[], ◌+◌, ◌-◌, ◌≡◌, ◌≤◌, length, take, Some}
use Rattle.sel_rows.specs.Grown.{Grown}
use Rattle.sel_rows.proofs.hand.Hand.draft.Given as goal

abbrev pub ghosts-write : goal.ghosts-write
ghosts-write g a = record { asks = g.J.Doing.asks; number = a.number; index = a.index; key = 0; ask = record { operator = 0; class = 0; kids = [] } }

abbrev pub invariant-loop-index : goal.invariant-loop-index
invariant-loop-index g l = record {
  same : l.self.rows ≡ l.fn.self.rows;
  grown : Grown g.J.Doing.asks l.fn.self.seat.me.0 l.self.seat.me.0;
  used_up : l.self.seat.me.0.used_up ≡ l.fn.self.seat.me.0.used_up;
  row_full : l.self.seat.me.0.row_full ≡ l.fn.self.seat.me.0.row_full;
  own : l.self.seat.me.0.own ≡ Some l.number;
  draft : take l.index l.self.seat.me.0.draft ≡ take l.index l.items;
  exact : 1 ≤ l.index → l.self.seat.me.0.draft ≡ take l.index l.items;
  short : l.index ≤ length l.self.seat.me.0.draft;
  count : (l.self.seat.me.0.steps ≤ l.fn.self.seat.me.0.steps + l.index) × (l.index ≤ length l.items);
}

abbrev pub decreases-loop-index : goal.decreases-loop-index
decreases-loop-index g l = length l.items - l.index
