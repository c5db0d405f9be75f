-- How the parts of the top call end. Of a shelf and of a sink stands first what was told before the part, and then what is told after it.
use Rattle.std.specs.Prelude.{◌≡◌, ◌≢◌, ℕ, ◌<◌, ◌≤◌, ◌^◌, ◌⊎◌, map, Bool, true, false, List, [], length, Option, Some, IfSome, Result, Ok, Err, IfErr, IsErrOf, OnOk}
use Rattle.std.specs.Io.KnownBytes.{append_known}
use Rattle.sel_base.specs.Causes.{Rose}
use Rattle.sel_base.specs.Puts.{SinkTold}
use Rattle.sel_base.specs.Reads.{ShelfTold}
use Rattle.sel_grammar.specs.declared.grammar.Grammar.{Grammar}
use Rattle.sel_grammar.specs.declared.refusal.GrammarRefusal.{GrammarRefusal}
use Rattle.sel_grammar.specs.declared.refusal.GrammarRefusal.TheVariants as refusal
use Rattle.sel_forest.specs.declared.forest.Forest.{Forest}
use Rattle.sel_forest.specs.declared.forest.Tree.{Tree}
use Rattle.sel_forest.specs.ForestText.{SpellsForest, IsForestFault}
use Rattle.sel_forest.specs.Printed.{IsPrinted}
use Rattle.sel_grammar.specs.Costs.{Cost}
use Rattle.sel_check.specs.Checks.{ProvesCosts, IsCheckFault}
use Rattle.sel_work.specs.declared.answer.Goal.{Goal}
use Rattle.sel_work.specs.declared.answer.Goal.TheVariants as goals
use Rattle.sel_words.specs.Words.{Job, Task}
use Rattle.sel_cli.specs.Texts.{IsRefusedGrammar, request_of}
use Rattle.sel_crew.specs.declared.report.Report.{Report}
use Rattle.sel_words.specs.declared.settings.Settings.{Settings}
use Rattle.sel_answers.specs.Output.{IsOutput, AreAnswered, AreNamed, AreCertifiedBehind, AreLeast, AreSummedUp}
use Rattle.sel_answers.specs.Reported.{marks_of}
use Rattle.sel_cli.specs.Ends.{WritesSome, finished, EndsFor, WasRead, ReadsFor}
use Rattle.sel_cli.specs.Reporting.{TellsOf, IsUnfinished, ReportsFor, nothing_reported}
use Rattle.sel_cli.specs.Runs.{KeepsShelf, KeepsOutput}
use Rattle.sel_cli.specs.declared.jobs.each_tree.Telling.{Telling}
use Rattle.sel_cli.specs.declared.jobs.each_tree.Telling.TheVariants as tells
use Rattle.sel_cli.specs.declared.status.Status.{Status}
use Rattle.sel_cli.specs.declared.status.Status.TheVariants.{Done, ReadFault, TooBig, BadForest, WriteFault, NoMemory, Uncovered, BadCertificate}

-- ---- texts

-- why the text of this name was not read
abbrev pub FetchesFor : List ℕ → ℕ → ShelfTold → ShelfTold → Status → Type 0
FetchesFor name limit before now ReadFault = Rose before.faults now.faults × (now.last.name ≡ name) × (now.last.failed ≡ true)
FetchesFor name limit before now TooBig = IfSome (before.held name) (λ held. limit < length held) × (now.last.name ≡ name) × (limit < now.last.count)
FetchesFor name limit before now NoMemory = Unit {0}
FetchesFor name limit before now _ = ⊥

-- What the reading of the text of this name does to the shelf, where there is one to be read: what is held stays, the count of faults rises at a failed
-- read alone, and the last read was of this text. A call that stops here ends with a status that says no more.
pub record ReadsText {T : Type 0} (wanted : Option Task) (name : Option (List ℕ)) (result : Result T Status) (before now : ShelfTold) : Type 0 where
  pub unchanged : now.held ≡ before.held
  pub later : before.faults ≤ now.faults
  pub quiet : ¬ IsErrOf result ReadFault → now.faults ≡ before.faults
  pub read : OnOk result (IfSome name (WasRead now.last))
  pub unread : IfErr result (ReadsFor wanted now.last)

-- why the grammar's text was refused
abbrev pub JudgedFor : List ℕ → GrammarRefusal → Type 0
JudgedFor text (refusal.Fault fault) = IsRefusedGrammar text fault
JudgedFor text refusal.NoMemory = Unit {0}

-- why no forest was made of the text
abbrev pub StopsOver : Grammar → List ℕ → Status → Type 0
StopsOver grammar text (BadForest fault) = IsForestFault grammar text fault
StopsOver grammar text NoMemory = Unit {0}
StopsOver grammar text _ = ⊥

-- why the certificates prove no costs
abbrev pub StopsCheck : Grammar → Forest → List ℕ → Status → Type 0
StopsCheck grammar forest text (BadCertificate fault) = IsCheckFault grammar forest text fault
StopsCheck grammar forest text NoMemory = Unit {0}
StopsCheck grammar forest text _ = ⊥

-- ---- outputs

-- An output that is so was written, at once or piece by piece, and the writing ended with this status.
pub record Writes (Is : Bool → List ℕ → Type 0) (before now : SinkTold) (status : Status) : Type 0 where
  pub bytes : List ℕ
  pub why : WritesSome Is before now bytes status
  pub written : now.taken ≡ append_known before.taken bytes
  pub keeps : KeepsOutput before now status

-- the writing stopped, and the output isn't done
pub record Stops (Is : Bool → List ℕ → Type 0) (before now : SinkTold) (status : Status) : Type 0 where
  pub writes : Writes Is before now status
  pub not_done : status ≢ Done
  pub not_uncovered : status ≢ Uncovered

-- How the output of some trees was written: all of it, and it tells whether every tree is covered, or so far.
abbrev pub EndsBatch : (Bool → List ℕ → Type 0) → SinkTold → SinkTold → Result Bool Status → Type 0
EndsBatch Is before now (Ok covered) = Writes Is before now (finished covered)
EndsBatch Is before now (Err status) = Stops Is before now status

-- the output is this
abbrev pub IsThis : Bool → List ℕ → Bool → List ℕ → Type 0
IsThis whole_covered whole covered bytes = (covered ≡ whole_covered) × (bytes ≡ whole)

-- what is asked of each tree for what is told of it
abbrev pub goal_of : Telling → Goal
goal_of (tells.Answer goal) = goal
goal_of (tells.Named names) = goals.Cover

-- there are names, and not too many, where there are any to tell
abbrev pub HasNames : Telling → Type 0
HasNames (tells.Answer goal) = Unit {0}
HasNames (tells.Named names) = (1 ≤ length names.now) × (length names.now < 2 ^ 32)

-- what is told of trees that are numbered behind so many others: their answers, or their texts with the names of registers
abbrev pub AreTold : Grammar → Telling → ℕ → List Tree → Bool → List ℕ → Type 0
AreTold grammar (tells.Answer goal) before trees covered bytes = AreAnswered grammar goal before trees covered bytes
AreTold grammar (tells.Named names) before trees covered bytes = AreNamed grammar (map (λ name. name.now) names.now) before trees covered bytes

-- the output is the certificates of the forest's trees
abbrev pub IsCertifiedForest : Grammar → Forest → Bool → List ℕ → Type 0
IsCertifiedForest grammar forest covered bytes = AreCertifiedBehind grammar 0 forest.trees covered bytes

-- the output is the forest in print
abbrev pub IsForestInPrint : Grammar → Forest → Bool → List ℕ → Type 0
IsForestInPrint grammar forest covered bytes = IsPrinted grammar forest bytes × (covered ≡ true)

-- A job over an accepted grammar and, for most, a forest was done so far, and this is reported.
pub record DoesJob (settings : Settings) (job : Job) (grammar : Grammar) (forest : Option Forest) (before now : SinkTold) (status : Status) (report : Report) : Type 0 where
  pub writes : Writes (IsOutput job grammar forest (marks_of report)) before now status
  pub reports : ReportsFor settings job grammar forest report writes.bytes status

-- The sums of the trees were written so far, and behind them what is told of their table, and this is reported.
pub record SumsUpJob (settings : Settings) (grammar : Grammar) (trees : List Tree) (before now : SinkTold) (status : Status) (report : Report) : Type 0 where
  pub writes : Writes (AreSummedUp grammar (marks_of report) trees) before now status
  pub reports : ((report ≡ nothing_reported) × (writes.bytes ≡ [])) ⊎ TellsOf settings grammar trees report

-- The text spells no forest, and nothing was done, or it spells one, and the job was done so far.
abbrev pub DoesJobOver : Settings → Job → Grammar → List ℕ → SinkTold → SinkTold → Status → Report → Type 0
DoesJobOver settings job grammar text before now status report =
    (StopsOver grammar text status × (now ≡ before) × (report ≡ nothing_reported))
    ⊎ ((forest : Forest) × SpellsForest grammar text forest × DoesJob settings job grammar (Some forest) before now status report)

-- What is told of each of the trees was written so far, and this is reported.
pub record TellsJob (settings : Settings) (grammar : Grammar) (telling : Telling) (trees : List Tree) (before now : SinkTold) (status : Status) (report : Report) : Type 0 where
  pub writes : Writes (AreTold grammar telling 0 trees) before now status
  pub reports : ((report ≡ nothing_reported) × IsUnfinished status) ⊎ TellsOf settings grammar trees report

-- The text spells no forest, and nothing was done, or it spells one, and what is told of its trees was written so far.
abbrev pub TellsOver : Settings → Grammar → Telling → List ℕ → SinkTold → SinkTold → Status → Report → Type 0
TellsOver settings grammar telling text before now status report =
    (StopsOver grammar text status × (now ≡ before) × (report ≡ nothing_reported))
    ⊎ ((forest : Forest) × SpellsForest grammar text forest × TellsJob settings grammar telling forest.trees before now status report)

-- The text of certificates has a fault, and nothing was written, or it proves costs, and the least costs of the forest's trees were written.
abbrev pub ChecksOver : Grammar → Forest → List ℕ → SinkTold → SinkTold → Status → Type 0
ChecksOver grammar forest text before now status =
    (StopsCheck grammar forest text status × (now ≡ before))
    ⊎ ((costs : List (Option Cost)) × ProvesCosts grammar forest text costs × Writes (AreLeast grammar forest.trees) before now status)

-- The text spells no forest, and nothing was written, or it spells one, and an output that is so over it was written.
abbrev pub WritesOver : (Forest → Bool → List ℕ → Type 0) → Grammar → List ℕ → SinkTold → SinkTold → Status → Type 0
WritesOver Is grammar text before now status =
    (StopsOver grammar text status × (now ≡ before)) ⊎ ((forest : Forest) × SpellsForest grammar text forest × Writes (Is forest) before now status)

-- ---- the whole

-- How a call with these words ends with this status, which speaks of the text of this name, what is reported, and what it does to the shelf and the output.
pub record Serves (wanted : Option Task) (shelf shelf_now : ShelfTold) (out out_now : SinkTold) (name : List ℕ) (status : Status) (report : Report) : Type 0 where
  pub bytes : List ℕ
  pub why : EndsFor (request_of wanted shelf) report shelf shelf_now out out_now name bytes status
  pub written : out_now.taken ≡ append_known out.taken bytes
  pub reads : KeepsShelf wanted shelf shelf_now status
  pub writes : KeepsOutput out out_now status
