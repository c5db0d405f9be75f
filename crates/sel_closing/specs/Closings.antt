-- How a table for a normal form was closed, and what it tells of trees.
use Rattle.std.specs.Prelude.{Bool, List}
use Rattle.atomic_table.specs.Seated.{TableId}
use Rattle.sel_grammar.specs.declared.grammar.Grammar.{Grammar}
use Rattle.sel_forest.specs.declared.forest.Tree.{Tree}
use Rattle.sel_normal.specs.NormalForms.{NormalForm}
use Rattle.sel_items.specs.Laws.{IsAcceptedForm}
use Rattle.sel_law.specs.declared.Setting.{Setting}
use Rattle.sel_rows.specs.declared.part.PassPart.{PassPart}
use Rattle.sel_rows.specs.declared.snapshot.Snapshot.{Snapshot}
use Rattle.sel_rows.specs.Closing.{IsClosedBy}
use Rattle.sel_rows.specs.Parts.{AllOf, IsSettingOf}
use Rattle.sel_count.specs.Counted.{IsCountedTable, IsWholeTable}
use Rattle.sel_count.specs.Things.{AreValid}
use Rattle.sel_closing.specs.Asking.{PartsAskOnly, PartsKeep, AreMarksOf}
use Rattle.sel_closing.specs.SnapshotTables.{Room, table_of}

-- A table was made for the normal form, with this room. It was closed with these parts, which are all of it, and the marks are theirs.
pub record IsClosingOf (normal : NormalForm) (room : Room) (parts : List PassPart) (s : Snapshot) (used_up row_full : Bool) : Type 0 where
  pub table : TableId
  pub setting : Setting
  pub made_for : IsSettingOf setting normal room.states room.keys room.workers
  pub parts_of : AllOf table setting parts
  pub closed : IsClosedBy setting parts s
  pub marks : AreMarksOf parts used_up row_full

-- Where the parts asked only keys of valid trees, the closed table tells of these trees what a table and its marks are to tell, and where the parts keep the trees it tells all.
abbrev pub TellsOfTrees : NormalForm → Room → List PassPart → Snapshot → Bool → Bool → Type 0
TellsOfTrees normal room parts s used_up row_full = (g : Grammar) (trees : List Tree) → IsAcceptedForm g normal → AreValid g trees → PartsAskOnly g trees parts
    → IsCountedTable g normal trees (table_of room s used_up row_full) × (PartsKeep g trees parts → IsWholeTable g trees (table_of room s used_up row_full))
