use Rattle.std.proofs.Common.{◌≡◌, ◌+◌, length, vec_len}
use Rattle.sel_rows.specs.Parts.{seats_of}
use Rattle.sel_rows.specs.Tables.{ArePartsOf}
use Rattle.sel_rows_threads.specs.Reports.{AreReportsOf}
use Rattle.sel_rows_threads.proofs.crew.gather.Given as goal

abbrev pub invariant-loop-report : goal.invariant-loop-report
invariant-loop-report l = record {
  reports : AreReportsOf l.rows l.reports.items;
  parts : ArePartsOf l.rows l.parts.items;
  seats : seats_of l.parts.items + length l.reports.items ≡ length l.initial.reports.items;
}

abbrev pub decreases-loop-report : goal.decreases-loop-report
decreases-loop-report l = vec_len l.reports
