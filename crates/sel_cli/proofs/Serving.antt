-- From the parts of a call to the whole: how its words were served.
use Rattle.std.proofs.Common.{◌≡◌, ◌≢◌, ℕ, ◌≤◌, Bool, List, [], length, map, Option, Some, None, Ok, Err, IfSome, IsErrOf, refl, sym, ap, subst, ◌∙◌, inl, inr, arith}
use Rattle.std.specs.Borrow.{Bor}
use Rattle.sel_base.specs.Causes.{Rose}
use Rattle.sel_base.specs.Puts.{SinkTold}
use Rattle.sel_base.specs.Reads.{LastRead, ShelfTold}
use Rattle.sel_grammar.specs.declared.grammar.Grammar.{Grammar}
use Rattle.sel_forest.specs.declared.forest.Forest.{Forest}
use Rattle.sel_forest.specs.ForestText.{SpellsForest}
use Rattle.sel_words.specs.declared.words.Mode.{Mode}
use Rattle.sel_words.specs.Words.{Job, PrintGrammar, OverForest, Regs, Check, Task, grammar_name, forest_name, certificate_name, last_name, later_name}
use Rattle.sel_crew.specs.declared.report.Report.{Report}
use Rattle.sel_work.specs.declared.answer.Goal.TheVariants as goals
use Rattle.sel_words.specs.declared.settings.Settings.{Settings}
use Rattle.sel_words.specs.declared.words.Mode.TheVariants as mode
use Rattle.sel_answers.specs.Output.{TableMarks, IsOutput}
use Rattle.sel_answers.specs.Reported.{marks_of}
use Rattle.sel_cli.specs.Texts.{Request, MayBe, AcceptsGrammar, AcceptsForest, Accepts, forest_limit, certificate_limit, request_of}
use Rattle.sel_cli.specs.Ends.{StopsFor, WritesSome, DoesTask, EndsFor, WasRead, ReadsFor}
use Rattle.sel_cli.specs.Parts.{ReadsText, StopsOver, StopsCheck, Writes, WritesOver, DoesJob, DoesJobOver, TellsJob, TellsOver, ChecksOver, SumsUpJob, IsForestInPrint, IsCertifiedForest, Serves}
use Rattle.sel_cli.specs.Reporting.{TellsOf, ReportsFor, nothing_reported}
use Rattle.sel_cli.specs.declared.jobs.each_tree.Telling.TheVariants as tells
use Rattle.sel_cli.specs.declared.jobs.reported.Reported.{Reported}
use Rattle.sel_cli.specs.declared.status.Status.{Status}
use Rattle.sel_cli.specs.declared.status.Status.TheVariants.{Done, Usage, ReadFault, TooBig, BadGrammar, BadForest, WriteFault, NoMemory, Uncovered, BadCertificate}
use Rattle.sel_cli.proofs.Writing.{nothing_taken, output_kept}

-- ---- calls that stop before they write

not_ok : {T : Type 0} (x : T) (status : Status) → IsErrOf (Ok x) status → ⊥
not_ok x status e = cc

not_other : {T : Type 0} (status other : Status) → status ≢ other → IsErrOf {T = T} (Err status) other → ⊥
not_other status other differs e = absurd (differs (cc))

-- a text was not read, or not accepted
pub stop_serves : {T : Type 0} (wanted : Option Task) (read : Option (List ℕ)) (name : List ℕ) (shelf shelf_now : ShelfTold) (out : SinkTold) (status : Status) (report : Report) → report ≡ nothing_reported
    → StopsFor (request_of wanted shelf) shelf shelf_now name status → ReadsText {T = T} wanted read (Err status) shelf shelf_now → Serves wanted shelf shelf_now out out name status report
stop_serves wanted read name shelf shelf_now out status report none stops r = record {
  bytes = [];
  why = inl (refl, none, stops);
  written = nothing_taken out.taken;
  reads = record { unchanged = r.unchanged; later = r.later; quiet = λ differs. r.quiet (not_other status ReadFault differs); read = r.unread };
  writes = output_kept out status;
}

-- the shelf was asked for nothing
pub unasked_serves : (wanted : Option Task) (name : List ℕ) (shelf : ShelfTold) (out : SinkTold) (status : Status) (report : Report) → report ≡ nothing_reported
    → StopsFor (request_of wanted shelf) shelf shelf name status → ReadsFor wanted shelf.last status → Serves wanted shelf shelf out out name status report
unasked_serves wanted name shelf out status report none stops last = record {
  bytes = [];
  why = inl (refl, none, stops);
  written = nothing_taken out.taken;
  reads = record { unchanged = refl; later = omega arith; quiet = λ no. refl; read = last };
  writes = output_kept out status;
}

-- ---- calls that write

-- and the last of its texts was the last that was read
read_by : (Is : Bool → List ℕ → Type 0) (task : Task) (last : LastRead) (out out_now : SinkTold) (bytes : List ℕ) (status : Status)
    → IfSome (last_name task) (WasRead last) → WritesSome Is out out_now bytes status → ReadsFor (Some task) last status
read_by Is task last out out_now bytes WriteFault r w = r
read_by Is task last out out_now bytes NoMemory r w = tt
read_by Is task last out out_now bytes Done r w = r
read_by Is task last out out_now bytes Uncovered r w = r
read_by Is task last out out_now bytes Usage r w = absurd w
read_by Is task last out out_now bytes ReadFault r w = absurd w
read_by Is task last out out_now bytes TooBig r w = absurd w
read_by Is task last out out_now bytes (BadGrammar fault) r w = absurd w
read_by Is task last out out_now bytes (BadForest fault) r w = absurd w
read_by Is task last out out_now bytes (BadCertificate fault) r w = absurd w

-- the texts of a task were read and accepted, and its job was done
pub done_serves : {T : Type 0} (x : T) (task : Task) (grammar : Grammar) (forest : Option Forest) (read : Option (List ℕ)) (name : List ℕ) (shelf shelf_now : ShelfTold) (out out_now : SinkTold) (status : Status) (report : Report)
    → Accepts MayBe (request_of (Some task) shelf) task grammar forest → last_name task ≡ read → ReadsText (Some task) read (Ok x) shelf shelf_now
    → DoesJob task.settings task.job grammar forest out out_now status report → Serves (Some task) shelf shelf_now out out_now name status report
done_serves x task grammar forest read name shelf shelf_now out out_now status report a last r d = record {
  bytes = (d.writes).bytes;
  why = inr (record { task = task; grammar = grammar; forest = forest; accepts = a; writes = (d.writes).why; reports = d.reports });
  written = (d.writes).written;
  reads = record {
    unchanged = r.unchanged;
    later = r.later;
    quiet = λ no. r.quiet (not_ok x ReadFault);
    read = read_by (IsOutput task.job grammar forest (marks_of report)) task shelf_now.last out out_now (d.writes).bytes status (subst (λ n. IfSome n (WasRead shelf_now.last)) (sym last) r.read) (d.writes).why;
  };
  writes = (d.writes).keeps;
}

-- the last text of a task, by its forest's and its certificates'
last_is : (task : Task) (forest certificate : Option (List ℕ)) → forest_name task.job ≡ forest → certificate_name task.job ≡ certificate
    → last_name task ≡ later_name (later_name (grammar_name task) forest) certificate
last_is task forest certificate f c = ap (λ n. later_name (later_name (grammar_name task) n) (certificate_name task.job)) f ∙ ap (λ n. later_name (later_name (grammar_name task) forest) n) c

-- a task whose job is this, over a grammar alone
pub job_serves : {T : Type 0} (x : T) (task : Task) (job : Job) (grammar : Grammar) (name : List ℕ) (shelf shelf_now : ShelfTold) (out out_now : SinkTold) (status : Status) (report : Report)
    → task.job ≡ job → forest_name job ≡ None → certificate_name job ≡ None → AcceptsGrammar MayBe (request_of (Some task) shelf) task grammar → ReadsText (Some task) (grammar_name task) (Ok x) shelf shelf_now
    → DoesJob task.settings job grammar None out out_now status report → Serves (Some task) shelf shelf_now out out_now name status report
job_serves x task job grammar name shelf shelf_now out out_now status report is none uncertified a r d =
    let alone : forest_name task.job ≡ None = ap forest_name is ∙ none in
    done_serves x task grammar None (grammar_name task) name shelf shelf_now out out_now status report (a, alone)
    (last_is task None None alone (ap certificate_name is ∙ uncertified)) r
    (subst (λ j. DoesJob task.settings j grammar None out out_now status report) (sym is) d)

-- the grammar in print
pub grammar_printed : (settings : Settings) (grammar : Grammar) (out out_now : SinkTold) (status : Status) (report : Report) → report ≡ nothing_reported
    → ((marks : TableMarks) → Writes (IsOutput PrintGrammar grammar None marks) out out_now status) → DoesJob settings PrintGrammar grammar None out out_now status report
grammar_printed settings grammar out out_now status report none w = record { writes = w (marks_of report); reports = none }

-- ---- what is done over a forest

pub printed_over : (settings : Settings) (grammar : Grammar) (name text : List ℕ) (out out_now : SinkTold) (status : Status) (report : Report) → report ≡ nothing_reported
    → WritesOver (IsForestInPrint grammar) grammar text out out_now status → DoesJobOver settings (OverForest mode.Print name) grammar text out out_now status report
printed_over settings grammar name text out out_now status report none (inl (stops, same)) = inl (stops, same, none)
printed_over settings grammar name text out out_now status report none (inr (forest, spelled, w)) =
    inr (forest, spelled, record { writes = record { bytes = w.bytes; why = w.why; written = w.written; keeps = w.keeps }; reports = none })

pub certified_over : (settings : Settings) (grammar : Grammar) (name text : List ℕ) (out out_now : SinkTold) (status : Status) (report : Report) → report ≡ nothing_reported
    → WritesOver (IsCertifiedForest grammar) grammar text out out_now status → DoesJobOver settings (OverForest mode.Certify name) grammar text out out_now status report
certified_over settings grammar name text out out_now status report none (inl (stops, same)) = inl (stops, same, none)
certified_over settings grammar name text out out_now status report none (inr (forest, spelled, w)) =
    inr (forest, spelled, record { writes = record { bytes = w.bytes; why = w.why; written = w.written; keeps = w.keeps }; reports = none })

pub covers_over : (settings : Settings) (grammar : Grammar) (name text : List ℕ) (out out_now : SinkTold) (status : Status) (report : Report)
    → TellsOver settings grammar (tells.Answer goals.Cover) text out out_now status report → DoesJobOver settings (OverForest mode.Cover name) grammar text out out_now status report
covers_over settings grammar name text out out_now status report (inl none) = inl none
covers_over settings grammar name text out out_now status report (inr (forest, spelled, a)) =
    inr (forest, spelled, record { writes = record { bytes = (a.writes).bytes; why = (a.writes).why; written = (a.writes).written; keeps = (a.writes).keeps }; reports = a.reports })

pub texts_over : (settings : Settings) (grammar : Grammar) (name text : List ℕ) (out out_now : SinkTold) (status : Status) (report : Report)
    → TellsOver settings grammar (tells.Answer goals.Text) text out out_now status report → DoesJobOver settings (OverForest mode.Select name) grammar text out out_now status report
texts_over settings grammar name text out out_now status report (inl none) = inl none
texts_over settings grammar name text out out_now status report (inr (forest, spelled, a)) =
    inr (forest, spelled, record { writes = record { bytes = (a.writes).bytes; why = (a.writes).why; written = (a.writes).written; keeps = (a.writes).keeps }; reports = a.reports })

-- names of registers as the text of the words has them
pub named_over : (settings : Settings) (grammar : Grammar) (name text : List ℕ) (slice : Bor (List (Bor (List ℕ)))) (names : List (List ℕ)) (out out_now : SinkTold) (status : Status) (report : Report)
    → map (λ n. n.now) slice.now ≡ names → TellsOver settings grammar (tells.Named slice) text out out_now status report → DoesJobOver settings (Regs names name) grammar text out out_now status report
named_over settings grammar name text slice names out out_now status report same (inl none) = inl none
named_over settings grammar name text slice names out out_now status report same (inr (forest, spelled, a)) =
    subst (λ ns. DoesJobOver settings (Regs ns name) grammar text out out_now status report) same
    (inr (forest, spelled, record { writes = record { bytes = (a.writes).bytes; why = (a.writes).why; written = (a.writes).written; keeps = (a.writes).keeps }; reports = a.reports }))

pub sums_over : (settings : Settings) (grammar : Grammar) (name text : List ℕ) (forest : Forest) (out out_now : SinkTold) (status : Status) (report : Report) → SpellsForest grammar text forest
    → SumsUpJob settings grammar forest.trees out out_now status report → DoesJobOver settings (OverForest mode.Summary name) grammar text out out_now status report
sums_over settings grammar name text forest out out_now status report spelled a =
    inr (forest, spelled, record { writes = record { bytes = (a.writes).bytes; why = (a.writes).why; written = (a.writes).written; keeps = (a.writes).keeps }; reports = a.reports })

-- ---- a task over a forest

-- the forest's text spells none
refused_stops : (task : Task) (grammar : Grammar) (name text : List ℕ) (shelf shelf_now : ShelfTold) (status : Status)
    → AcceptsGrammar MayBe (request_of (Some task) shelf) task grammar → forest_name task.job ≡ Some name → MayBe (shelf.held name) text → length text ≤ forest_limit
    → StopsOver grammar text status → StopsFor (request_of (Some task) shelf) shelf shelf_now name status
refused_stops task grammar name text shelf shelf_now (BadForest fault) a n is within stops = record {
  task = task;
  grammar = grammar;
  text = text;
  has = record { accepts_grammar = a; is_named = n; is_text = is };
  within = within;
  refused = stops;
}
refused_stops task grammar name text shelf shelf_now NoMemory a n is within stops = tt
refused_stops task grammar name text shelf shelf_now Done a n is within stops = absurd stops
refused_stops task grammar name text shelf shelf_now Usage a n is within stops = absurd stops
refused_stops task grammar name text shelf shelf_now ReadFault a n is within stops = absurd stops
refused_stops task grammar name text shelf shelf_now TooBig a n is within stops = absurd stops
refused_stops task grammar name text shelf shelf_now (BadGrammar fault) a n is within stops = absurd stops
refused_stops task grammar name text shelf shelf_now WriteFault a n is within stops = absurd stops
refused_stops task grammar name text shelf shelf_now Uncovered a n is within stops = absurd stops
refused_stops task grammar name text shelf shelf_now (BadCertificate fault) a n is within stops = absurd stops

refused_reads : (task : Task) (grammar : Grammar) (text : List ℕ) (last : LastRead) (status : Status) → StopsOver grammar text status → IfSome (forest_name task.job) (WasRead last) → ReadsFor (Some task) last status
refused_reads task grammar text last (BadForest fault) stops r = r
refused_reads task grammar text last NoMemory stops r = tt
refused_reads task grammar text last Done stops r = absurd stops
refused_reads task grammar text last Usage stops r = absurd stops
refused_reads task grammar text last ReadFault stops r = absurd stops
refused_reads task grammar text last TooBig stops r = absurd stops
refused_reads task grammar text last (BadGrammar fault) stops r = absurd stops
refused_reads task grammar text last WriteFault stops r = absurd stops
refused_reads task grammar text last Uncovered stops r = absurd stops
refused_reads task grammar text last (BadCertificate fault) stops r = absurd stops

-- and so nothing is done
pub refused_serves : {T : Type 0} (x : T) (task : Task) (grammar : Grammar) (name text : List ℕ) (shelf shelf_now : ShelfTold) (out : SinkTold) (status : Status) (report : Report) → report ≡ nothing_reported
    → AcceptsGrammar MayBe (request_of (Some task) shelf) task grammar → forest_name task.job ≡ Some name → MayBe (shelf.held name) text → length text ≤ forest_limit
    → ReadsText (Some task) (Some name) (Ok x) shelf shelf_now → StopsOver grammar text status → Serves (Some task) shelf shelf_now out out name status report
refused_serves {T} x task grammar name text shelf shelf_now out status report none a n is within r stops =
    stop_serves {T = T} (Some task) (Some name) name shelf shelf_now out status report none (refused_stops task grammar name text shelf shelf_now status a n is within stops)
    (record {
      unchanged = r.unchanged;
      later = r.later;
      quiet = λ no. r.quiet (not_ok x ReadFault);
      read = tt;
      unread = refused_reads task grammar text shelf_now.last status stops (subst (λ m. IfSome m (WasRead shelf_now.last)) (sym n) r.read);
    })

pub over_serves : {T : Type 0} (x : T) (task : Task) (grammar : Grammar) (name text : List ℕ) (shelf shelf_now : ShelfTold) (out out_now : SinkTold) (status : Status) (report : Report)
    → AcceptsGrammar MayBe (request_of (Some task) shelf) task grammar → forest_name task.job ≡ Some name → certificate_name task.job ≡ None → MayBe (shelf.held name) text → length text ≤ forest_limit
    → ReadsText (Some task) (Some name) (Ok x) shelf shelf_now → DoesJobOver task.settings task.job grammar text out out_now status report
    → Serves (Some task) shelf shelf_now out out_now name status report
over_serves {T} x task grammar name text shelf shelf_now out out_now status report a n uncertified is within r = go
  where
    go : DoesJobOver task.settings task.job grammar text out out_now status report → Serves (Some task) shelf shelf_now out out_now name status report
    go (inl (stops, same, none)) =
        subst (λ sink. Serves (Some task) shelf shelf_now out sink name status report) (sym same)
        (refused_serves x task grammar name text shelf shelf_now out status report none a n is within r stops)
    go (inr (forest, spelled, w)) =
        done_serves x task grammar (Some forest) (Some name) name shelf shelf_now out out_now status report
        (inl (record { name = name; text = text; has = record { accepts_grammar = a; is_named = n; is_text = is }; within = within; spelled = spelled }, uncertified))
        (last_is task (Some name) None n uncertified) r w

-- ---- a task over a forest and a text of certificates

-- the certificates prove no costs
unproved_stops : (task : Task) (grammar : Grammar) (forest : Forest) (name text : List ℕ) (shelf shelf_now : ShelfTold) (status : Status)
    → AcceptsForest MayBe (request_of (Some task) shelf) task grammar forest → certificate_name task.job ≡ Some name → MayBe (shelf.held name) text → length text ≤ certificate_limit
    → StopsCheck grammar forest text status → StopsFor (request_of (Some task) shelf) shelf shelf_now name status
unproved_stops task grammar forest name text shelf shelf_now (BadCertificate fault) a n is within stops = record {
  task = task;
  grammar = grammar;
  forest = forest;
  text = text;
  has = record { accepts_forest = a; is_named = n; is_text = is };
  within = within;
  refused = stops;
}
unproved_stops task grammar forest name text shelf shelf_now NoMemory a n is within stops = tt
unproved_stops task grammar forest name text shelf shelf_now Done a n is within stops = absurd stops
unproved_stops task grammar forest name text shelf shelf_now Usage a n is within stops = absurd stops
unproved_stops task grammar forest name text shelf shelf_now ReadFault a n is within stops = absurd stops
unproved_stops task grammar forest name text shelf shelf_now TooBig a n is within stops = absurd stops
unproved_stops task grammar forest name text shelf shelf_now (BadGrammar fault) a n is within stops = absurd stops
unproved_stops task grammar forest name text shelf shelf_now (BadForest fault) a n is within stops = absurd stops
unproved_stops task grammar forest name text shelf shelf_now WriteFault a n is within stops = absurd stops
unproved_stops task grammar forest name text shelf shelf_now Uncovered a n is within stops = absurd stops

unproved_reads : (task : Task) (grammar : Grammar) (forest : Forest) (text : List ℕ) (last : LastRead) (status : Status) → StopsCheck grammar forest text status → IfSome (last_name task) (WasRead last)
    → ReadsFor (Some task) last status
unproved_reads task grammar forest text last (BadCertificate fault) stops r = r
unproved_reads task grammar forest text last NoMemory stops r = tt
unproved_reads task grammar forest text last Done stops r = absurd stops
unproved_reads task grammar forest text last Usage stops r = absurd stops
unproved_reads task grammar forest text last ReadFault stops r = absurd stops
unproved_reads task grammar forest text last TooBig stops r = absurd stops
unproved_reads task grammar forest text last (BadGrammar fault) stops r = absurd stops
unproved_reads task grammar forest text last (BadForest fault) stops r = absurd stops
unproved_reads task grammar forest text last WriteFault stops r = absurd stops
unproved_reads task grammar forest text last Uncovered stops r = absurd stops

pub check_serves : {T : Type 0} (x : T) (task : Task) (grammar : Grammar) (forest : Forest) (over name text : List ℕ) (shelf shelf_now : ShelfTold) (out out_now : SinkTold) (status : Status) (report : Report) → report ≡ nothing_reported
    → AcceptsForest MayBe (request_of (Some task) shelf) task grammar forest → task.job ≡ Check over name → MayBe (shelf.held name) text → length text ≤ certificate_limit
    → ReadsText (Some task) (Some name) (Ok x) shelf shelf_now → ChecksOver grammar forest text out out_now status → Serves (Some task) shelf shelf_now out out_now name status report
check_serves {T} x task grammar forest over name text shelf shelf_now out out_now status report none a job is within r = go
  where
    named : certificate_name task.job ≡ Some name
    named = ap certificate_name job

    last : last_name task ≡ Some name
    last = last_is task (Some over) (Some name) (ap forest_name job) named

    go : ChecksOver grammar forest text out out_now status → Serves (Some task) shelf shelf_now out out_now name status report
    go (inl (stops, same)) =
        subst (λ sink. Serves (Some task) shelf shelf_now out sink name status report) (sym same)
        (stop_serves {T = T} (Some task) (Some name) name shelf shelf_now out status report none (unproved_stops task grammar forest name text shelf shelf_now status a named is within stops)
        (record {
          unchanged = r.unchanged;
          later = r.later;
          quiet = λ no. r.quiet (not_ok x ReadFault);
          read = tt;
          unread = unproved_reads task grammar forest text shelf_now.last status stops (subst (λ m. IfSome m (WasRead shelf_now.last)) (sym last) r.read);
        }))
    go (inr (costs, proved, w)) =
        done_serves x task grammar (Some forest) (Some name) name shelf shelf_now out out_now status report
        (inr (record { name = name; text = text; has = record { accepts_forest = a; is_named = named; is_text = is }; within = within; costs = costs; proved = proved })) last r
        (subst (λ j. DoesJob task.settings j grammar (Some forest) out out_now status report) (sym job) (record { writes = w; reports = none }))

-- a job over a forest does what its mode says
pub by_mode : (settings : Settings) (grammar : Grammar) (given mode : Mode) (text : List ℕ) (out out_now : SinkTold) (status : Status) (report : Report) (name : List ℕ) → given ≡ mode
    → DoesJobOver settings (OverForest mode name) grammar text out out_now status report → DoesJobOver settings (OverForest given name) grammar text out out_now status report
by_mode settings grammar given mode text out out_now status report name is w = subst (λ m. DoesJobOver settings (OverForest m name) grammar text out out_now status report) (sym is) w

-- what is written of a forest without a table is reported so
pub printed_reported : (settings : Settings) (grammar : Grammar) (name text : List ℕ) (out out_now : SinkTold) (status : Status) (r : Reported) → r ≡ record { status = status; report = nothing_reported }
    → WritesOver (IsForestInPrint grammar) grammar text out out_now status → DoesJobOver settings (OverForest mode.Print name) grammar text out out_now r.status r.report
printed_reported settings grammar name text out out_now status r is w =
    subst (λ (x : Reported). DoesJobOver settings (OverForest mode.Print name) grammar text out out_now x.status x.report) (sym is) (printed_over settings grammar name text out out_now status nothing_reported refl w)

pub certified_reported : (settings : Settings) (grammar : Grammar) (name text : List ℕ) (out out_now : SinkTold) (status : Status) (r : Reported) → r ≡ record { status = status; report = nothing_reported }
    → WritesOver (IsCertifiedForest grammar) grammar text out out_now status → DoesJobOver settings (OverForest mode.Certify name) grammar text out out_now r.status r.report
certified_reported settings grammar name text out out_now status r is w =
    subst (λ (x : Reported). DoesJobOver settings (OverForest mode.Certify name) grammar text out out_now x.status x.report) (sym is) (certified_over settings grammar name text out out_now status nothing_reported refl w)

-- what is served so is told so
pub serves_as : (wanted : Option Task) (shelf shelf_now : ShelfTold) (out out_now : SinkTold) (name told : List ℕ) (status ended : Status) (report reported : Report) → told ≡ name → ended ≡ status → reported ≡ report
    → Serves wanted shelf shelf_now out out_now name status report → Serves wanted shelf shelf_now out out_now told ended reported
serves_as wanted shelf shelf_now out out_now name told status ended report reported n e r s =
    subst (λ x. Serves wanted shelf shelf_now out out_now told ended x) (sym r)
    (subst (λ x. Serves wanted shelf shelf_now out out_now told x report) (sym e) (subst (λ x. Serves wanted shelf shelf_now out out_now x status report) (sym n) s))

-- ---- one part after another

-- what was accepted by a shelf is accepted by one that holds the same
pub accepts_later : (wanted : Option Task) (task : Task) (grammar : Grammar) (forest : Forest) (before now : ShelfTold) → now.held ≡ before.held
    → AcceptsForest MayBe (request_of wanted before) task grammar forest → AcceptsForest MayBe (request_of wanted now) task grammar forest
accepts_later wanted task grammar forest before now same a = subst (λ h. AcceptsForest MayBe (record { wanted = wanted; held = h }) task grammar forest) (sym same) a

-- what stopped by the reads of the later part stopped so by those of both
stops_later : (wanted : Option Task) (before middle now : ShelfTold) (name : List ℕ) (status : Status) → middle.held ≡ before.held → middle.faults ≡ before.faults
    → StopsFor (request_of wanted middle) middle now name status → StopsFor (request_of wanted before) before now name status
stops_later wanted before middle now name status held faults stops = go status (subst (λ h. StopsFor (record { wanted = wanted; held = h }) middle now name status) held stops)
  where
    go : (status : Status) → StopsFor (request_of wanted before) middle now name status → StopsFor (request_of wanted before) before now name status
    go ReadFault s = record { is_wanted = s.is_wanted; rose = subst (λ n. Rose n now.faults) faults s.rose; last_name = s.last_name; last_failed = s.last_failed }
    go TooBig s = s
    go Usage s = s
    go (BadGrammar fault) s = s
    go (BadForest fault) s = s
    go NoMemory s = s
    go Done s = absurd s
    go WriteFault s = absurd s
    go Uncovered s = absurd s
    go (BadCertificate fault) s = s

-- a text was read, and then the rest was served
pub then_serves : {T : Type 0} (x : T) (wanted : Option Task) (read : Option (List ℕ)) (before middle now : ShelfTold) (out out_now : SinkTold) (name : List ℕ) (status : Status) (report : Report)
    → ReadsText wanted read (Ok x) before middle → Serves wanted middle now out out_now name status report → Serves wanted before now out out_now name status report
then_serves x wanted read before middle now out out_now name status report r s = record {
  bytes = s.bytes;
  why = go s.why;
  written = s.written;
  reads = record {
    unchanged = (s.reads).unchanged ∙ r.unchanged;
    later = let first = r.later in let second = (s.reads).later in omega arith;
    quiet = λ no. (s.reads).quiet no ∙ same;
    read = (s.reads).read;
  };
  writes = s.writes;
}
  where
    same : middle.faults ≡ before.faults
    same = r.quiet (not_ok x ReadFault)

    go : EndsFor (request_of wanted middle) report middle now out out_now name s.bytes status → EndsFor (request_of wanted before) report before now out out_now name s.bytes status
    go (inl (none, nothing, stops)) = inl (none, nothing, stops_later wanted before middle now name status r.unchanged same stops)
    go (inr d) = inr (subst (λ h. DoesTask (record { wanted = wanted; held = h }) report out out_now s.bytes status) r.unchanged d)
