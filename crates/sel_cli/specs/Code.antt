-- The numbers of the statuses, with one of which the program exits.
use Rattle.std.specs.Prelude.{◌≡◌, ℕ, Option}
use Rattle.sel_base.specs.Puts.{SinkTold}
use Rattle.sel_base.specs.Reads.{ShelfTold}
use Rattle.sel_words.specs.Words.{Task}
use Rattle.sel_crew.specs.declared.report.Report.{Report}
use Rattle.sel_cli.specs.Runs.{Runs}
use Rattle.sel_cli.specs.declared.status.Status.{Status}
use Rattle.sel_cli.specs.declared.status.Status.TheVariants.{Done, Usage, ReadFault, TooBig, BadGrammar, BadForest, WriteFault, NoMemory, Uncovered, BadCertificate}

abbrev pub code_of : Status → ℕ
code_of Done = 0
code_of Usage = 1
code_of ReadFault = 2
code_of TooBig = 3
code_of (BadGrammar fault) = 4
code_of (BadForest fault) = 5
code_of WriteFault = 6
code_of NoMemory = 7
code_of Uncovered = 8
code_of (BadCertificate fault) = 9

-- A run with these words went so, and this is the number of its status.
abbrev pub ExitsFor : Option Task → ShelfTold → ShelfTold → SinkTold → SinkTold → SinkTold → SinkTold → ℕ → Type 0
ExitsFor wanted shelf shelf_now out out_now err err_now code = (status : Status) × (report : Report) × Runs wanted report shelf shelf_now out out_now err err_now status × (code ≡ code_of status)
