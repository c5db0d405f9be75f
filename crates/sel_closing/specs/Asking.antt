-- What a part of a table, or all of them, asked and keep, said of trees.
use Rattle.std.specs.Prelude.{◌≡◌, ◌↔◌, Bool, true, List, []}
use Rattle.std.specs.List.{Contains}
use Rattle.sel_grammar.specs.declared.grammar.Grammar.{Grammar}
use Rattle.sel_forest.specs.declared.forest.Tree.{Tree}
use Rattle.sel_items.specs.Automata.{Told, StaysTrue, KeepsMark}
use Rattle.sel_items.specs.Follows.{NodeKey}
use Rattle.sel_law.specs.Words.{In}
use Rattle.sel_rows.specs.declared.part.PassPart.{PassPart}
use Rattle.sel_rows.specs.Meanings.{told_by}
use Rattle.sel_rows.specs.Parts.{part_used_up, part_row_full}
use Rattle.sel_rows.specs.Tables.{view_of}
use Rattle.sel_work.specs.Kept.{AreTabledKept}
use Rattle.sel_count.specs.Things.{IsAskableKey}

-- what a part tells as an automaton, between its passes
abbrev pub told_of_part : PassPart → Told
told_of_part p = told_by (view_of p).setting.normal.value (view_of p) [] (part_used_up p) (part_row_full p)

-- Each key that was asked may be asked of the trees, and where the row is marked full there is a tree.
pub record AsksOnly (g : Grammar) (trees : List Tree) (told : Told) : Type 0 where
  pub keys : (k : NodeKey) → told.asked k → IsAskableKey g trees k
  pub some_tree : told.row_full ≡ true → (tree : Tree) × Contains trees tree

-- Nothing is lost: what was asked, known and held is, and marks stay.
pub record TellsMore (old new : Told) : Type 0 where
  pub asked : StaysTrue old.asked new.asked
  pub known : StaysTrue old.known new.known
  pub held : StaysTrue old.held new.held
  pub used_up : KeepsMark old.used_up new.used_up
  pub row_full : KeepsMark old.row_full new.row_full

-- each of the parts asked only keys that may be asked of the trees
abbrev pub PartsAskOnly : Grammar → List Tree → List PassPart → Type 0
PartsAskOnly g trees parts = (p : PassPart) → In p parts → AsksOnly g trees (told_of_part p)

-- the tabled nodes of each of the trees are kept by one of the parts
abbrev pub PartsKeep : Grammar → List Tree → List PassPart → Type 0
PartsKeep g trees parts = (tree : Tree) → Contains trees tree → (p : PassPart) × In p parts × AreTabledKept g tree.nodes (told_of_part p)

-- for each of the parts there is one of the new ones that tells no less
abbrev pub PartsTellMore : List PassPart → List PassPart → Type 0
PartsTellMore old new = (p : PassPart) → In p old → (q : PassPart) × In q new × TellsMore (told_of_part p) (told_of_part q)

-- Each mark is set where one of the parts has it, and nowhere else.
pub record AreMarksOf (parts : List PassPart) (used_up row_full : Bool) : Type 0 where
  pub numbers : (used_up ≡ true) ↔ ((p : PassPart) × In p parts × (part_used_up p ≡ true))
  pub row : (row_full ≡ true) ↔ ((p : PassPart) × In p parts × (part_row_full p ≡ true))
