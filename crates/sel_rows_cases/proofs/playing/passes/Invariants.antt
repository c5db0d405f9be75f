use Rattle.sel_rows_cases.proofs.playing.passes.Given as goal

abbrev pub ghosts-play : goal.ghosts-play
ghosts-play a = record { name = (a.blank).name; parts = (a.blank).parts }
