-- How the top call ends, and why. Of a shelf and of a sink stands first what was told before the call, and then what is told after it.
use Rattle.std.specs.Prelude.{◌≡◌, ℕ, ◌<◌, Bool, true, false, List, [], ◌++◌, Option, Some, None, option_and_then, IfSome, ◌⊎◌}
use Rattle.std.specs.Io.KnownBytes.{append_known}
use Rattle.sel_base.specs.Causes.{Rose}
use Rattle.sel_base.specs.Puts.{SinkTold}
use Rattle.sel_base.specs.Reads.{LastRead, ShelfTold}
use Rattle.sel_grammar.specs.declared.grammar.Grammar.{Grammar}
use Rattle.sel_forest.specs.declared.forest.Forest.{Forest}
use Rattle.sel_words.specs.Words.{Job, Task, grammar_name, forest_name, certificate_name, last_name}
use Rattle.sel_crew.specs.declared.report.Report.{Report}
use Rattle.sel_answers.specs.Output.{IsOutput, TableMarks}
use Rattle.sel_answers.specs.Reported.{marks_of}
use Rattle.sel_cli.specs.Reporting.{ReportsFor, nothing_reported}
use Rattle.sel_cli.specs.Texts.{Request, IsTold, MayBe, AcceptsGrammar, AcceptsForest, Accepts, IsTooLong, RefusesGrammar, RefusesForest, RefusesCertificate, IsWhole}
use Rattle.sel_cli.specs.Lines.{status_line}
use Rattle.sel_cli.specs.declared.status.Status.{Status}
use Rattle.sel_cli.specs.declared.status.Status.TheVariants.{Done, Usage, ReadFault, TooBig, BadGrammar, BadForest, WriteFault, NoMemory, Uncovered, BadCertificate}

-- the text of this name is the next to be read: the grammar's, unless it is shipped, the forest's behind an accepted grammar, or that of certificates behind an accepted forest
abbrev pub IsWanted : Request → List ℕ → Type 0
IsWanted request name = (task : Task) × (request.wanted ≡ Some task)
    × ((grammar_name task ≡ Some name) ⊎ ((grammar : Grammar) × AcceptsGrammar MayBe request task grammar × (forest_name task.job ≡ Some name))
    ⊎ ((grammar : Grammar) × (forest : Forest) × AcceptsForest MayBe request task grammar forest × (certificate_name task.job ≡ Some name)))

-- the count of faults rose, and the last read was of this text and failed
pub record IsUnread (request : Request) (before now : ShelfTold) (name : List ℕ) : Type 0 where
  pub is_wanted : IsWanted request name
  pub rose : Rose before.faults now.faults
  pub last_name : now.last.name ≡ name
  pub last_failed : now.last.failed ≡ true

-- the text is longer than its limit, and the last read was of it and took more than that
pub record IsTooBig (request : Request) (last : LastRead) (name : List ℕ) : Type 0 where
  pub limit : ℕ
  pub too_long : IsTooLong MayBe request name limit
  pub last_name : last.name ≡ name
  pub last_count : limit < last.count

-- why the call stopped before it wrote. `name` is that of the text of which the status speaks.
abbrev pub StopsFor : Request → ShelfTold → ShelfTold → List ℕ → Status → Type 0
StopsFor request before now name Usage = request.wanted ≡ None
StopsFor request before now name ReadFault = IsUnread request before now name
StopsFor request before now name TooBig = IsTooBig request now.last name
StopsFor request before now name (BadGrammar fault) = RefusesGrammar MayBe request name fault
StopsFor request before now name (BadForest fault) = RefusesForest MayBe request name fault
StopsFor request before now name (BadCertificate fault) = RefusesCertificate MayBe request name fault
StopsFor request before now name NoMemory = Unit {0}
StopsFor request before now name _ = ⊥

abbrev pub IsFrontOf : List ℕ → List ℕ → Type 0
IsFrontOf front whole = (rest : List ℕ) × (whole ≡ front ++ rest)

-- the bytes are a front of an output that is so
abbrev pub IsFrontOfSome : (Bool → List ℕ → Type 0) → List ℕ → Type 0
IsFrontOfSome Is bytes = (covered : Bool) × (whole : List ℕ) × Is covered whole × IsFrontOf bytes whole

-- how the writing of an output that is so ended, of which these bytes were taken: all, a front, or none
abbrev pub WritesSome : (Bool → List ℕ → Type 0) → SinkTold → SinkTold → List ℕ → Status → Type 0
WritesSome Is before now bytes WriteFault = Rose before.faults now.faults × IsFrontOfSome Is bytes
WritesSome Is before now bytes NoMemory = (bytes ≡ []) ⊎ IsFrontOfSome Is bytes
WritesSome Is before now bytes Uncovered = Is false bytes
WritesSome Is before now bytes Done = Is true bytes
WritesSome Is before now bytes _ = ⊥

-- A task whose texts are accepted was done so far: of its output, with the marks that are reported, these bytes were taken, and the report tells of its trees.
pub record DoesTask (request : Request) (report : Report) (before now : SinkTold) (bytes : List ℕ) (status : Status) : Type 0 where
  pub task : Task
  pub grammar : Grammar
  pub forest : Option Forest
  pub accepts : Accepts MayBe request task grammar forest
  pub writes : WritesSome (IsOutput task.job grammar forest (marks_of report)) before now bytes status
  pub reports : ReportsFor task.settings task.job grammar forest report bytes status

-- why the call ended with this status: it stopped before it wrote, or it did an accepted task and wrote these bytes
abbrev pub EndsFor : Request → Report → ShelfTold → ShelfTold → SinkTold → SinkTold → List ℕ → List ℕ → Status → Type 0
EndsFor request report shelf shelf_now out out_now name bytes status =
    ((bytes ≡ []) × (report ≡ nothing_reported) × StopsFor request shelf shelf_now name status) ⊎ DoesTask request report out out_now bytes status

-- what `err` took is a front of the line of this status, which speaks of the text of this name
pub record TellsLine (name : List ℕ) (status : Status) (before now : SinkTold) : Type 0 where
  pub line : List ℕ
  pub is_front : IsFrontOf line (status_line name status)
  pub told : now.taken ≡ append_known before.taken line

-- Why the call ended so, with what is reported, the bytes that `out` took, and what `err` took of the status's line.
pub record Ending (request : Request) (report : Report) (shelf shelf_now : ShelfTold) (out out_now err err_now : SinkTold) (status : Status) : Type 0 where
  pub name : List ℕ
  pub bytes : List ℕ
  pub why : EndsFor request report shelf shelf_now out out_now name bytes status
  pub written : out_now.taken ≡ append_known out.taken bytes
  pub line : TellsLine name status err err_now

-- The words and the texts that the shelf tells decide this status.
abbrev pub Decides : Request → Status → Type 0
Decides request Usage = request.wanted ≡ None
Decides request TooBig = (name : List ℕ) × (limit : ℕ) × IsTooLong IsTold request name limit
Decides request (BadGrammar fault) = (name : List ℕ) × RefusesGrammar IsTold request name fault
Decides request (BadForest fault) = (name : List ℕ) × RefusesForest IsTold request name fault
Decides request (BadCertificate fault) = (name : List ℕ) × RefusesCertificate IsTold request name fault
Decides request Done = (marks : TableMarks) × (bytes : List ℕ) × IsWhole IsTold request marks true bytes
Decides request Uncovered = (marks : TableMarks) × (bytes : List ℕ) × IsWhole IsTold request marks false bytes
Decides request _ = ⊥

-- want of memory and the faults of the outside may come in the place of what the texts decide
abbrev pub IsExcused : Status → Type 0
IsExcused NoMemory = Unit {0}
IsExcused ReadFault = Unit {0}
IsExcused WriteFault = Unit {0}
IsExcused _ = ⊥

-- What is decided comes, or what is excused.
abbrev pub ComesAsDecided : Request → Status → Type 0
ComesAsDecided request status = (decided : Status) → Decides request decided → (status ≡ decided) ⊎ IsExcused status

-- the status of a whole run, by whether every tree is covered
abbrev pub finished : Bool → Status
finished true = Done
finished false = Uncovered

-- all of the job's output was taken, and the status tells whether every tree is covered
pub record IsAnswered (job : Job) (grammar : Grammar) (forest : Option Forest) (marks : TableMarks) (before now : SinkTold) (status : Status) : Type 0 where
  pub covered : Bool
  pub bytes : List ℕ
  pub output : IsOutput job grammar forest marks covered bytes
  pub written : now.taken ≡ append_known before.taken bytes
  pub finishes : status ≡ finished covered

-- Where the shelf tells texts that are accepted, and no count of faults rose, the task was done to the end, or there was no memory.
abbrev pub IsComplete : Request → TableMarks → ShelfTold → ShelfTold → SinkTold → SinkTold → Status → Type 0
IsComplete request marks shelf shelf_now out out_now status = (task : Task) (grammar : Grammar) (forest : Option Forest) → Accepts IsTold request task grammar forest
    → ¬ Rose shelf.faults shelf_now.faults → ¬ Rose out.faults out_now.faults → (status ≡ NoMemory) ⊎ IsAnswered task.job grammar forest marks out out_now status

-- the last read was of the text of this name, and didn't fail
abbrev pub WasRead : LastRead → List ℕ → Type 0
WasRead last name = (last.name ≡ name) × (last.failed ≡ false)

-- the name of the forest's text of a task, where it has one
abbrev pub forest_name_of : Task → Option (List ℕ)
forest_name_of task = forest_name task.job

-- what was read last: the grammar's text where it is refused, the forest's where that is, and the last of the task's where it is done, or that of
-- certificates is refused; nothing is said where no such text is read
abbrev pub ReadsFor : Option Task → LastRead → Status → Type 0
ReadsFor wanted last (BadGrammar fault) = IfSome (option_and_then grammar_name wanted) (WasRead last)
ReadsFor wanted last (BadForest fault) = IfSome (option_and_then forest_name_of wanted) (WasRead last)
ReadsFor wanted last (BadCertificate fault) = IfSome (option_and_then last_name wanted) (WasRead last)
ReadsFor wanted last Done = IfSome (option_and_then last_name wanted) (WasRead last)
ReadsFor wanted last Uncovered = IfSome (option_and_then last_name wanted) (WasRead last)
ReadsFor wanted last WriteFault = IfSome (option_and_then last_name wanted) (WasRead last)
ReadsFor wanted last _ = Unit {0}

-- the words need no text of the shelf: they are no command, or a shipped grammar is printed, or a forest made of it
abbrev pub NeedsNoText : Option Task → Type 0
NeedsNoText wanted = option_and_then last_name wanted ≡ None
