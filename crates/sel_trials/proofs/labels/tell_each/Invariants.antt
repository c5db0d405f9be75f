use Rattle.std.proofs.Common.{◌≡◌}
use Rattle.sel_trials.proofs.labels.tell_each.Given as goal

abbrev pub invariant-trees : goal.invariant-trees
invariant-trees g l = record { same_normal : (l.automaton).normal ≡ (l.accepted).normal }
