use Rattle.std.proofs.Common.{[], ◌∷◌}
use Rattle.sel_rows.specs.Held.{held_ask}
use Rattle.sel_rows.proofs.pass.Pass.publish_transition.Given as goal

abbrev pub ghosts-place : goal.ghosts-place
ghosts-place a = record { asks = held_ask a.self.now.seat.me.0 a.key ∷ []; number = a.number; index = 0; key = a.key; ask = held_ask a.self.now.seat.me.0 a.key }
