-- What a run does to its shelf and its output, and how it goes as a whole.
use Rattle.std.specs.Prelude.{◌≡◌, ◌≢◌, ◌≤◌, Option}
use Rattle.sel_base.specs.Puts.{SinkTold}
use Rattle.sel_base.specs.Reads.{ShelfTold}
use Rattle.sel_words.specs.Words.{Task}
use Rattle.sel_crew.specs.declared.report.Report.{Report}
use Rattle.sel_answers.specs.Reported.{marks_of}
use Rattle.sel_cli.specs.Texts.{request_of}
use Rattle.sel_cli.specs.Ends.{Ending, ComesAsDecided, IsComplete, ReadsFor}
use Rattle.sel_cli.specs.declared.status.Status.{Status}
use Rattle.sel_cli.specs.declared.status.Status.TheVariants.{ReadFault, WriteFault}

-- What a call with these words does to the shelf where it ends with this status: what is held stays, the count of faults rises at a failed read alone,
-- and the last read is of the text of which the status speaks.
pub record KeepsShelf (wanted : Option Task) (before now : ShelfTold) (status : Status) : Type 0 where
  pub unchanged : now.held ≡ before.held
  pub later : before.faults ≤ now.faults
  pub quiet : (status ≢ ReadFault) → now.faults ≡ before.faults
  pub read : ReadsFor wanted now.last status

-- What it does to the output beside the bytes: the count of faults rises at a failed write alone.
pub record KeepsOutput (before now : SinkTold) (status : Status) : Type 0 where
  pub later : before.faults ≤ now.faults
  pub quiet : (status ≢ WriteFault) → now.faults ≡ before.faults

-- How a run with these words goes that ends with this status and this report: all that is promised of the top call.
pub record Runs (wanted : Option Task) (report : Report) (shelf shelf_now : ShelfTold) (out out_now err err_now : SinkTold) (status : Status) : Type 0 where
  pub ends : Ending (request_of wanted shelf) report shelf shelf_now out out_now err err_now status
  pub exactly : ComesAsDecided (request_of wanted shelf) status
  pub complete : IsComplete (request_of wanted shelf) (marks_of report) shelf shelf_now out out_now status
  pub reads : KeepsShelf wanted shelf shelf_now status
  pub writes : KeepsOutput out out_now status
  pub tells : err.faults ≤ err_now.faults
