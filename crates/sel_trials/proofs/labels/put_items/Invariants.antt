use Rattle.std.proofs.Common.{◌≡◌}
use Rattle.sel_reduce.specs.Labelled.{IsLabelling}
use Rattle.sel_trials.proofs.labels.put_items.Given as goal

abbrev pub invariant-items : goal.invariant-items
invariant-items g l = record {
  same_normal : (g.A.Automaton.told l.automaton).normal ≡ (l.accepted).normal;
  labelled : IsLabelling (l.accepted).grammar (g.A.Automaton.told l.automaton).means l.tree (l.labels).of;
}
