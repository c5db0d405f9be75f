use Rattle.std.proofs.Common.{◌≡◌}
use Rattle.sel_items.specs.Automata.{KeepsMeanings}
use Rattle.sel_rows_threads.proofs.reading.add_items.Given as goal

abbrev pub invariant-entries : goal.invariant-entries
invariant-entries g l = record {
  same_normal : (g.A.Automaton.told l.automaton).normal ≡ l.normal;
  same_fixed : g.A.Automaton.fixed l.automaton ≡ g.A.Automaton.fixed l.fn.automaton;
  keeps : KeepsMeanings (g.A.Automaton.told l.fn.automaton).means (g.A.Automaton.told l.automaton).means;
}
