use Rattle.std.proofs.Common.{[], ◌∷◌}
use Rattle.sel_rows.specs.Held.{held_ask}
use Rattle.sel_rows.proofs.pass.Pass.find_transition.Given as goal

abbrev pub ghosts-find_key : goal.ghosts-find_key
ghosts-find_key a = record { asks = held_ask a.self.now.hand.seat.me.0 a.key ∷ []; number = 0; index = 0; key = a.key; ask = held_ask a.self.now.hand.seat.me.0 a.key }
