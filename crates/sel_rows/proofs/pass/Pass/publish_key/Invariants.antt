use Rattle.sel_rows.proofs.pass.Pass.publish_key.Given as goal

abbrev pub ghosts-place : goal.ghosts-place
ghosts-place g a = record { asks = g.J.Doing.asks; number = a.number; index = 0; key = g.J.Doing.key; ask = g.J.Doing.ask }
