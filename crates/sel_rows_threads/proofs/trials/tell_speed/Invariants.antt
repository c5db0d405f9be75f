use Rattle.sel_rows_threads.proofs.trials.tell_speed.Given as goal

abbrev pub ghosts-measure : goal.ghosts-measure
ghosts-measure a = record { name = (a.blank).name; parts = (a.blank).parts }
