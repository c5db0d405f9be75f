-- What a report tells of its table, as text.
use Rattle.std.specs.Prelude.{ℕ, Bool, true, false, Option, Some, None, List, length}
use Rattle.sel_rows.specs.declared.snapshot.Snapshot.{Snapshot}
use Rattle.sel_rows.specs.Snapshots.{states_of, transitions_of}
use Rattle.sel_crew.specs.declared.report.Report.{Report}
use Rattle.sel_answers.specs.Output.{TableMarks, counts_text, marks_text}

abbrev pub marks_of : Report → TableMarks
marks_of report = record { used_up = report.used_up; row_full = report.row_full }

-- how many states and keys the table has; none where there is no table
abbrev pub state_count : Option Snapshot → ℕ
state_count None = 0
state_count (Some s) = length (states_of s)

abbrev pub key_count : Option Snapshot → ℕ
key_count None = 0
key_count (Some s) = length (transitions_of s)

-- how many states and keys there are, or the marks, where one is set
abbrev pub marked_text : Bool → Bool → ℕ → ℕ → List ℕ
marked_text false false states keys = counts_text states keys
marked_text false true states keys = marks_text false true
marked_text true row_full states keys = marks_text true row_full

abbrev pub report_text : Report → List ℕ
report_text report = marked_text report.used_up report.row_full (state_count report.snapshot) (key_count report.snapshot)
