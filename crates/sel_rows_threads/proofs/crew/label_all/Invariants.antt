use Rattle.sel_rows_threads.proofs.crew.label_all.Given as goal

abbrev pub ghosts-compare : goal.ghosts-compare
ghosts-compare a = record { name = (a.blank).name; parts = (a.blank).parts }
