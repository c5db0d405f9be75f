use Rattle.std.proofs.Common.{◌≡◌, ℕ, Some}
use Rattle.std.specs.Prelude.{slice_get}
use Rattle.sel_items.specs.declared.items.Items.{Items}
use Rattle.sel_items.specs.declared.label.Label.{Label}
use Rattle.sel_rows_threads.proofs.reading.add_all.Given as goal

abbrev pub invariant-labels : goal.invariant-labels
invariant-labels g l = record {
  same_normal : (g.A.Automaton.told l.automaton).normal ≡ l.normal;
  same_fixed : g.A.Automaton.fixed l.automaton ≡ g.A.Automaton.fixed l.fn.automaton;
  mean : (k : ℕ) (x : Label) → slice_get l.labels k ≡ Some x → (i : Items) × (g.A.Automaton.told l.automaton).means x i;
}
