-- The program's exit status is that of its run.
use Rattle.std.proofs.Common.{◌≡◌, ℕ, Option, subst}
use Rattle.sel_base.specs.Puts.{SinkTold}
use Rattle.sel_base.specs.Reads.{ShelfTold}
use Rattle.sel_words.specs.Words.{Task}
use Rattle.sel_cli.specs.Code.{code_of, ExitsFor}
use Rattle.sel_crew.specs.declared.report.Report.{Report}
use Rattle.sel_cli.specs.Runs.{Runs}
use Rattle.sel_cli.specs.declared.status.Status.{Status}

pub exits : (wanted asked : Option Task) (shelf shelf_now : ShelfTold) (out out_now err err_now : SinkTold) (status : Status) (report : Report) (code : ℕ) → wanted ≡ asked
    → Runs wanted report shelf shelf_now out out_now err err_now status → code ≡ code_of status → ExitsFor asked shelf shelf_now out out_now err err_now code
exits wanted asked shelf shelf_now out out_now err err_now status report code same runs is = (status, report, subst (λ w. Runs w report shelf shelf_now out out_now err err_now status) same runs, is)
