use Rattle.sel_rows_threads.proofs.trials.task_of.Given as goal

abbrev pub ghosts-wanted_of : goal.ghosts-wanted_of
ghosts-wanted_of a = record { name = (a.blank).name; parts = (a.blank).parts }
