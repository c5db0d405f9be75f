use Rattle.std.proofs.Common.{◌≡◌}
use Rattle.sel_rows_threads.proofs.reading.read_forest.Given as goal

abbrev pub invariant-trees : goal.invariant-trees
invariant-trees g l = record {
  same_normal : (g.A.Automaton.told l.automaton).normal ≡ l.normal;
  same_fixed : g.A.Automaton.fixed l.automaton ≡ g.A.Automaton.fixed l.fn.automaton;
}
