use Rattle.std.proofs.Common.{◌≡◌, ◌≤◌, length}
use Rattle.sel_grammar.specs.declared.grammar.Grammar.{Grammar}
use Rattle.sel_forest.specs.Valid.{IsValidTree}
use Rattle.sel_items.specs.Automata.{Keeps}
use Rattle.sel_items.specs.Laws.{IsAcceptedForm}
use Rattle.sel_label.specs.Labelling.{AreAllNumbered, AreAllReady}
use Rattle.sel_label.specs.Fronts.{AreLabelledTo, AddsBefore}
use Rattle.sel_label.proofs.labels.label_tree.Given as goal

abbrev pub invariant-loop-at : goal.invariant-loop-at
invariant-loop-at g l =
    record {
      fixed : g.A.Automaton.fixed l.automaton ≡ g.A.Automaton.fixed l.fn.automaton;
      long : length l.labels.items ≡ l._at;
      labelled : (h : Grammar) → IsAcceptedForm h l.normal → IsValidTree h l.tree → AreLabelledTo h l.tree.nodes (g.A.Automaton.told l.automaton) l.labels.items;
      adds : (h : Grammar) → IsAcceptedForm h l.normal → IsValidTree h l.tree → AddsBefore h l.tree.nodes l.labels.items (length l.labels.items) (g.A.Automaton.told l.fn.automaton) (g.A.Automaton.told l.automaton);
      plain_labels : (g.A.Automaton.told l.automaton).plain_labels ≤ l._at;
      keeps : Keeps (g.A.Automaton.told l.fn.automaton) (g.A.Automaton.told l.automaton);
      hit : (h : Grammar) → IsAcceptedForm h l.normal → IsValidTree h l.tree → AreAllReady h l.tree.nodes (g.A.Automaton.told l.fn.automaton)
          → (l.steps ≡ l.fn.steps) × AreAllNumbered l.labels.items × AreAllReady h l.tree.nodes (g.A.Automaton.told l.automaton);
      steps : l.fn.steps ≤ l.steps;
    }
