use Rattle.std.proofs.Common.{◌+◌, ◌*◌, ◌≡◌, ◌<◌, ◌≤◌, length, Some}
use Rattle.sel_law.specs.Kinds.{WalkedStates}
use Rattle.sel_rows.specs.Grown.{Grown}
use Rattle.sel_rows.proofs.hand.Hand.publish.Given as goal

abbrev pub ghosts-draft : goal.ghosts-draft
ghosts-draft g a = record { asks = g.J.Doing.asks; number = 0; index = 0; key = 0; ask = g.J.Doing.ask }

abbrev pub ghosts-stand : goal.ghosts-stand
ghosts-stand g a = record { asks = g.J.Doing.asks; number = a.number; index = 0; key = 0; ask = g.J.Doing.ask }

abbrev pub ghosts-differs : goal.ghosts-differs
ghosts-differs g a = record { asks = g.J.Doing.asks; number = 0; index = 0; key = 0; ask = g.J.Doing.ask }

abbrev pub invariant-loop-left : goal.invariant-loop-left
invariant-loop-left g l = record {
  same : l.self.rows ≡ l.fn.self.rows;
  grown : Grown g.J.Doing.asks l.fn.self.seat.me.0 l.self.seat.me.0;
  used_up : l.self.seat.me.0.used_up ≡ l.fn.self.seat.me.0.used_up;
  row_full : l.self.seat.me.0.row_full ≡ l.fn.self.seat.me.0.row_full;
  own : l.self.seat.me.0.own ≡ Some l.number;
  draft : l.self.seat.me.0.draft ≡ l.items;
  inside : l.at < l.count;
  count : l.self.seat.me.0.steps + l.left * (length l.items + 1) ≤ l.fn.self.seat.me.0.steps + length l.items + l.count * (length l.items + 1);
  walked : (w : WalkedStates l.self.seat.me.0 l.items l.at) × (l.count ≤ w.0 + l.left);
}

abbrev pub decreases-loop-left : goal.decreases-loop-left
decreases-loop-left g l = l.left
