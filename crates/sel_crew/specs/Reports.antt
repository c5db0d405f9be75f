-- What is told of all trees that a crew answered.
use Rattle.std.specs.Prelude.{◌≡◌, ◌-◌, ◌^◌, false, Some, List, min}
use Rattle.sel_grammar.specs.declared.grammar.Grammar.{Grammar}
use Rattle.sel_forest.specs.declared.forest.Tree.{Tree}
use Rattle.sel_normal.specs.NormalForms.{NormalForm}
use Rattle.sel_law.specs.Words.{weigh}
use Rattle.sel_rows.specs.declared.snapshot.Snapshot.{Snapshot}
use Rattle.sel_rows.specs.Parts.{part_evaluated}
use Rattle.sel_count.specs.Counted.{IsCountedTable, IsWholeTable}
use Rattle.sel_closing.specs.Closings.{IsClosingOf}
use Rattle.sel_closing.specs.SnapshotTables.{Room, table_of}
use Rattle.sel_closing.specs.Untabled.{CountsUntabled}
use Rattle.sel_crew.specs.declared.crew.Crew.{Crew}
use Rattle.sel_crew.specs.declared.report.Report.{Report}
use Rattle.sel_crew.specs.Crews.{normal_of, room_of, parts_of, plain_nodes_of}

-- The table was closed with the crew's parts, and this is what it has, with the parts' marks. The counts are the sums of what was counted, or the greatest number of 64 bits where that is less.
pub record IsReportOf (c : Crew) (report : Report) : Type 0 where
  pub closed : Snapshot
  pub snapshot : report.snapshot ≡ Some closed
  pub closing : IsClosingOf (normal_of c) (room_of c) (parts_of c) closed report.used_up report.row_full
  pub evaluated : report.evaluated ≡ min (weigh part_evaluated (parts_of c)) (2 ^ 64 - 1)
  pub plain_nodes : report.plain_nodes ≡ plain_nodes_of c

-- The report has a table, which tells of the trees what a table and its marks are to tell, also where a call gave no answer.
pub record TellsCounted (g : Grammar) (normal : NormalForm) (room : Room) (trees : List Tree) (report : Report) : Type 0 where
  pub closed : Snapshot
  pub snapshot : report.snapshot ≡ Some closed
  pub counted : IsCountedTable g normal trees (table_of room closed report.used_up report.row_full)

-- The report has a table, which tells of the trees what one is to tell over which each of them was answered.
pub record TellsWhole (g : Grammar) (room : Room) (trees : List Tree) (report : Report) : Type 0 where
  pub closed : Snapshot
  pub snapshot : report.snapshot ≡ Some closed
  pub whole : IsWholeTable g trees (table_of room closed report.used_up report.row_full)

-- Where the numbers aren't used up, the nodes with plain labels are those of the trees that aren't tabled, or the greatest number of 64 bits where that is less.
abbrev pub TellsPlainNodes : Grammar → List Tree → Report → Type 0
TellsPlainNodes g trees report = report.used_up ≡ false → CountsUntabled g trees report.plain_nodes
