use Rattle.sel_trials.proofs.labels.told_in.Given as goal

abbrev pub ghosts-tell_counted : goal.ghosts-tell_counted
ghosts-tell_counted a = record { name = (a.blank).name; parts = (a.blank).parts }
