-- What a run reports of the trees that it answered.
use Rattle.std.specs.Prelude.{◌≡◌, ℕ, false, List, [], Option, Some, None, ◌⊎◌}
use Rattle.sel_grammar.specs.declared.grammar.Grammar.{Grammar}
use Rattle.sel_forest.specs.declared.forest.Forest.{Forest}
use Rattle.sel_forest.specs.declared.forest.Tree.{Tree}
use Rattle.sel_normal.specs.NormalForms.{NormalForm}
use Rattle.sel_items.specs.Laws.{IsAcceptedForm}
use Rattle.sel_rows.specs.declared.snapshot.Snapshot.{Snapshot}
use Rattle.sel_count.specs.Counted.{IsCountedTable, IsWholeTable}
use Rattle.sel_closing.specs.SnapshotTables.{Room, table_of}
use Rattle.sel_gen.specs.Made.{IsMadeForest}
use Rattle.sel_crew.specs.declared.report.Report.{Report}
use Rattle.sel_crew.specs.Reports.{TellsPlainNodes}
use Rattle.sel_words.specs.Words.{Job, PrintGrammar, Make, OverForest, Regs, Check}
use Rattle.sel_words.specs.declared.settings.Settings.{Settings}
use Rattle.sel_words.specs.declared.words.Mode.TheVariants as mode
use Rattle.sel_cli.specs.declared.status.Status.{Status}
use Rattle.sel_cli.specs.declared.status.Status.TheVariants.{Done, Uncovered}

abbrev pub nothing_reported : Report
nothing_reported = record { evaluated = 0; plain_nodes = 0; row_full = false; used_up = false; snapshot = None }

-- how many states and keys a table has room for, and for how many workers it is, by the options
abbrev pub room_for : Settings → Room
room_for settings = record { states = settings.states; keys = settings.rows; workers = settings.workers }

-- The report has the one table of all workers, made as the options say. Its states differ, each transition's number is that of the state that follows from its key, nothing in it is invented, and without marks nothing is missing; and the plain nodes are those that aren't tabled.
pub record TellsOf (settings : Settings) (g : Grammar) (trees : List Tree) (report : Report) : Type 0 where
  pub normal : NormalForm
  pub form : IsAcceptedForm g normal
  pub snapshot : Snapshot
  pub closed : report.snapshot ≡ Some snapshot
  pub counted : IsCountedTable g normal trees (table_of (room_for settings) snapshot report.used_up report.row_full)
  pub whole : IsWholeTable g trees (table_of (room_for settings) snapshot report.used_up report.row_full)
  pub plain_nodes : TellsPlainNodes g trees report

abbrev pub IsUnfinished : Status → Type 0
IsUnfinished Done = ⊥
IsUnfinished Uncovered = ⊥
IsUnfinished _ = Unit {0}

-- What is reported of a job over an accepted grammar and, for most, a forest: of its trees, unless it stopped before, where covers and texts are written before all trees are answered, and
-- sums behind them; nothing where trees aren't answered.
abbrev pub ReportsFor : Settings → Job → Grammar → Option Forest → Report → List ℕ → Status → Type 0
ReportsFor settings PrintGrammar g None report bytes status = report ≡ nothing_reported
ReportsFor settings (Make seed trees size) g None report bytes status =
    ((report ≡ nothing_reported) × (bytes ≡ [])) ⊎ ((forest : Forest) × IsMadeForest g seed trees size forest × TellsOf settings g forest.trees report)
ReportsFor settings (OverForest mode.Cover name) g (Some forest) report bytes status = ((report ≡ nothing_reported) × IsUnfinished status) ⊎ TellsOf settings g forest.trees report
ReportsFor settings (OverForest mode.Select name) g (Some forest) report bytes status = ((report ≡ nothing_reported) × IsUnfinished status) ⊎ TellsOf settings g forest.trees report
ReportsFor settings (OverForest mode.Summary name) g (Some forest) report bytes status = ((report ≡ nothing_reported) × (bytes ≡ [])) ⊎ TellsOf settings g forest.trees report
ReportsFor settings (OverForest mode.Print name) g (Some forest) report bytes status = report ≡ nothing_reported
ReportsFor settings (OverForest mode.Certify name) g (Some forest) report bytes status = report ≡ nothing_reported
ReportsFor settings (Regs names name) g (Some forest) report bytes status = ((report ≡ nothing_reported) × IsUnfinished status) ⊎ TellsOf settings g forest.trees report
ReportsFor settings (Check name certificate) g (Some forest) report bytes status = report ≡ nothing_reported
ReportsFor settings _ _ _ _ _ _ = ⊥
