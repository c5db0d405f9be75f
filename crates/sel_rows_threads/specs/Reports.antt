-- What a crew's passes leave.
use Rattle.std.specs.Prelude.{◌≡◌, List}
use Rattle.sel_law.specs.Words.{In}
use Rattle.sel_rows.specs.declared.rows.Rows.{Rows}
use Rattle.sel_rows.specs.Tables.{IsPartOf, view_of}
use Rattle.sel_rows_threads.specs.declared.crew.Report.{Report}

-- the report's part is one of the table, and has one seat
abbrev pub IsReportOf : Rows → Report → Type 0
IsReportOf rows r = IsPartOf rows r.part × ((view_of r.part).seats ≡ 1)

abbrev pub AreReportsOf : Rows → List Report → Type 0
AreReportsOf rows reports = (r : Report) → In r reports → IsReportOf rows r
