-- What the text of a whole table tells.
use Rattle.std.specs.Prelude.{List, length}
use Rattle.sel_grammar.specs.declared.grammar.Grammar.{Grammar}
use Rattle.sel_forest.specs.declared.forest.Tree.{Tree}
use Rattle.sel_normal.specs.NormalForms.{NormalForm}
use Rattle.sel_items.specs.Laws.{IsAcceptedForm}
use Rattle.sel_count.specs.ClosedTables.{ClosedTable}
use Rattle.sel_count.specs.Counted.{IsWholeTable}
use Rattle.sel_count.specs.Things.{AreValid}
use Rattle.sel_answers.specs.Output.{IsToldBy}
use Rattle.sel_answers.specs.Reported.{marked_text}

-- The text of a table over which each of the valid trees was answered tells of them how many item sets and keys their tabled nodes have, or the marks.
abbrev pub TablesAreTold : Type 0
TablesAreTold = (g : Grammar) (normal : NormalForm) (trees : List Tree) (t : ClosedTable) → IsAcceptedForm g normal → AreValid g trees → IsWholeTable g trees t
    → IsToldBy t.used_up t.row_full g trees (marked_text t.used_up t.row_full (length t.states) (length t.transitions))
