use Rattle.std.proofs.Common.{[], ◌+◌, ◌-◌, ◌*◌, ◌≡◌, ℕ, ◌<◌, ◌≤◌, length}
use Rattle.sel_law.specs.Words.{walk}
use Rattle.sel_law.specs.Kinds.{OtherState}
use Rattle.sel_rows.specs.Grown.{Grown, KeepsOwn}
use Rattle.sel_rows.proofs.hand.Hand.find_state.Given as goal

abbrev pub ghosts-look : goal.ghosts-look
ghosts-look g a = record { asks = g.J.Doing.asks; number = 0; index = 0; key = 0; ask = record { operator = 0; class = 0; kids = [] } }

abbrev pub ghosts-differs : goal.ghosts-differs
ghosts-differs g a = record { asks = g.J.Doing.asks; number = 0; index = 0; key = 0; ask = record { operator = 0; class = 0; kids = [] } }

abbrev pub invariant-loop-steps : goal.invariant-loop-steps
invariant-loop-steps g l = record {
  same : l.self.rows ≡ l.fn.self.rows;
  place : (l.at ≡ walk l.count l.home l.steps) × (l.at < l.count) × (l.steps ≤ l.count);
  grown : Grown g.J.Doing.asks l.fn.self.seat.me.0 l.self.seat.me.0;
  own : KeepsOwn l.fn.self.seat.me.0 l.self.seat.me.0;
  others : (j : ℕ) → j < l.steps → OtherState l.self.seat.me.0 l.items (walk l.count l.home j);
  goes_on : l.steps ≡ l.count → ⊥;
  count : l.self.seat.me.0.steps ≤ l.fn.self.seat.me.0.steps + l.steps * (length l.items + 1);
}

abbrev pub decreases-loop-steps : goal.decreases-loop-steps
decreases-loop-steps g l = l.count - l.steps
