use Rattle.std.proofs.Common.{◌⊎◌, ◌+◌, ◌-◌, ◌≡◌, ℕ, ◌<◌, ◌≤◌, true, List}
use Rattle.sel_law.specs.Words.{walk, IsMadeOf}
use Rattle.sel_law.specs.Kinds.{HeldKey, AllOther, HeldNumber, HeldWhole, OtherKey}
use Rattle.sel_rows.specs.Grown.{Grown, KeepsNumber}
use Rattle.sel_rows.proofs.hand.Hand.place.Given as goal

abbrev pub invariant-loop-steps : goal.invariant-loop-steps
invariant-loop-steps g l = record {
  same : l.self.rows ≡ l.fn.self.rows;
  place : (l.at ≡ walk l.rows l.home l.steps) × (l.at < l.rows) × (l.steps ≤ l.rows);
  held : HeldKey l.self.seat.me.0 l.key g.J.Doing.ask;
  number : HeldNumber l.self.seat.me.0 l.number;
  content : (c : List ℕ) × HeldWhole l.self.seat.me.0 l.number c × IsMadeOf l.fn.self.rows.now.table.shared.key g.J.Doing.ask c;
  grown : Grown g.J.Doing.asks l.fn.self.seat.me.0 l.self.seat.me.0;
  own : KeepsNumber l.fn.self.seat.me.0 l.self.seat.me.0;
  others : (j : ℕ) → j < l.steps → OtherKey l.self.seat.me.0 l.key (walk l.rows l.home j);
  marks : l.self.seat.me.0.row_full ≡ true → (l.fn.self.seat.me.0.row_full ≡ true) ⊎ AllOther l.self.seat.me.0 l.key;
  done : l.steps ≡ l.rows → l.self.seat.me.0.row_full ≡ true;
  count : l.self.seat.me.0.steps ≤ l.fn.self.seat.me.0.steps + l.steps;
}

abbrev pub decreases-loop-steps : goal.decreases-loop-steps
decreases-loop-steps g l = l.rows - l.steps
