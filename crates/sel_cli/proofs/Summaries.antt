-- The sums of batches, one behind the other.
use Rattle.std.proofs.Common.{◌≡◌, ℕ, ◌+◌, ◌≤◌, Bool, List, [], ◌∷◌, ◌++◌, length, Result, Ok, Err, IfOk, refl, sym, ap, subst, ◌∙◌, arith}
use Rattle.std.specs.List.{Contains}
use Rattle.std.proofs.lemmas.List.{append-nil, length-append, length-map}
use Rattle.std.specs.List.{list_all}
use Rattle.std.specs.Prelude.{None}
use Rattle.sel_base.specs.Puts.{SinkTold}
use Rattle.sel_forest.specs.declared.forest.Forest.{Forest}
use Rattle.sel_rows.specs.Snapshots.{states_of, transitions_of}
use Rattle.sel_closing.specs.SnapshotTables.{table_of, closed_state, closed_transition}
use Rattle.sel_gen.specs.Made.{IsMadeForest}
use Rattle.sel_words.specs.Words.{Make}
use Rattle.sel_words.specs.declared.settings.Settings.{Settings}
use Rattle.sel_crew.specs.declared.report.Report.{Report}
use Rattle.sel_answers.specs.Laws.{TablesAreTold}
use Rattle.sel_answers.specs.Output.{TableMarks, IsToldBy, AreSummedUp, IsOutput, summary_text, has_second_costs, is_covered}
use Rattle.sel_answers.specs.Reported.{marks_of, marked_text, state_count, key_count, report_text}
use Rattle.sel_cli.specs.Ends.{WritesSome}
use Rattle.sel_cli.specs.Parts.{Writes, IsThis, SumsUpJob, DoesJob}
use Rattle.sel_cli.specs.Reporting.{TellsOf, room_for, nothing_reported}
use Rattle.sel_cli.specs.declared.jobs.reported.Reported.{Reported}
use Rattle.sel_cli.specs.declared.status.Status.{Status}
use Rattle.sel_cli.specs.declared.status.Status.TheVariants.{Done, Usage, ReadFault, TooBig, BadGrammar, BadForest, WriteFault, NoMemory, Uncovered, BadCertificate}
use Rattle.sel_cli.proofs.Batches.{more_and_more, none_more}
use Rattle.sel_cli.proofs.Writing.{nothing_taken, output_kept, this_written}
use Rattle.std.proofs.lemmas.List.Elements.{Contains-append_cases}
use Rattle.std.proofs.Common.{inl, inr, ◌⊎◌, append_assoc}
use Rattle.sel_grammar.specs.declared.grammar.Grammar.{Grammar}
use Rattle.sel_forest.specs.declared.forest.Tree.{Tree}
use Rattle.sel_forest.specs.Valid.{IsValidTree}
use Rattle.sel_work.specs.declared.answer.Answer.{Answer}
use Rattle.sel_work.specs.declared.answer.Goal.TheVariants as goals
use Rattle.sel_count.specs.Things.{AreValid}
use Rattle.sel_gen.specs.Maker.{Maker, AreToCome}
use Rattle.sel_crew.specs.Answers.{AreAnswersOf}
use Rattle.sel_crew.specs.declared.crew.Crew.{Crew}
use Rattle.sel_answers.specs.Summing.{SumsUp}
use Rattle.sel_answers.specs.declared.summing.Summing.{Summing}
use Rattle.sel_answers.proofs.Answering.{answers-append, answers-length, answers_of}
use Rattle.sel_cli.specs.Crews.{AnswersMore, SumsUpTrees}

-- What was summed up of trees, with the rest of them to come.
pub record SummedSoFar (g : Grammar) (trees rest : List Tree) (sums : Summing) (old new : Crew) : Type 0 where
  pub done : List Tree
  pub cut : trees ≡ done ++ rest
  pub summed : SumsUpTrees g done sums
  pub answered : AnswersMore done old new

-- What was made and summed up so far.
pub record MadeSoFar (g : Grammar) (first now : Maker) (sums : Summing) (old new : Crew) : Type 0 where
  pub done : List Tree
  pub comes : (rest : List Tree) → AreToCome now rest → AreToCome first (done ++ rest)
  pub few : length done + now.left ≡ first.left
  pub valid : AreValid g done
  pub summed : SumsUpTrees g done sums
  pub answered : AnswersMore done old new

-- valid trees, and more of them
pub both_valid : (g : Grammar) (xs ys : List Tree) → AreValid g xs → AreValid g ys → AreValid g (xs ++ ys)
both_valid g xs ys p q tree there = go (Contains-append_cases xs ys tree there)
  where
    go : Contains xs tree ⊎ Contains ys tree → IsValidTree g tree
    go (inl h) = p tree h
    go (inr h) = q tree h

-- the sums of more trees
pub sums_more : (g : Grammar) (xs ys : List Tree) (answers : List Answer) (sums next : Summing) → AreValid g ys → SumsUpTrees g xs sums → AreAnswersOf g goals.Cover ys answers
    → ((others : List Answer) → SumsUp sums others → SumsUp next (others ++ answers)) → SumsUpTrees g (xs ++ ys) next
sums_more g xs ys answers sums next valid s more add = record {
  answers = s.answers ++ answers;
  answer_trees = answers-append g goals.Cover xs ys s.answers answers s.answer_trees (answers_of g goals.Cover ys answers valid more);
  sums = add s.answers s.sums;
}

-- a batch more is summed up
pub batch_summed : (g now : Grammar) (trees rest batch more : List Tree) (sums next : Summing) (old new newer : Crew) → SummedSoFar g trees rest sums old new → now ≡ g → rest ≡ batch ++ more
    → ((given : List Tree) → SumsUpTrees now given sums → SumsUpTrees now (given ++ batch) next) → AnswersMore batch new newer → SummedSoFar g trees more next old newer
batch_summed g now trees rest batch more sums next old new newer s same cut add answered = record {
  done = s.done ++ batch;
  cut = s.cut ∙ ap (λ l. s.done ++ l) cut ∙ sym (append_assoc s.done batch more);
  summed = subst (λ x. SumsUpTrees x s.done sums → SumsUpTrees x (s.done ++ batch) next) same (add s.done) s.summed;
  answered = more_and_more s.done batch old new newer s.answered answered;
}

-- no sums yet
pub none_summed : (g : Grammar) (sums : Summing) → SumsUp sums [] → SumsUpTrees g [] sums
none_summed g sums is = record { answers = []; answer_trees = tt; sums = is }

-- as many are summed up as there are trees
pub summed_count : (g : Grammar) (trees : List Tree) (sums : Summing) → SumsUpTrees g trees sums → sums.count ≡ length trees
summed_count g trees sums s = (s.sums).count ∙ answers-length g goals.Cover trees s.answers s.answer_trees

pub few_summed : (g now : Grammar) (trees rest batch more : List Tree) (sums : Summing) (old new : Crew) (most : ℕ) → SummedSoFar g trees rest sums old new → rest ≡ batch ++ more → length trees ≤ most → sums.count + length batch ≤ most
few_summed g now trees rest batch more sums old new most s cut few =
    let count = summed_count g s.done sums s.summed in
    let long : length trees ≡ length s.done + (length batch + length more) = ap length (s.cut ∙ ap (λ l. s.done ++ l) cut) ∙ length-append s.done (batch ++ more) ∙ ap (λ n. length s.done + n) (length-append batch more) in
    omega (arith, count, long, few)

module _ (g : Grammar) (trees rest : List Tree) (sums : Summing) (old new : Crew) (s : SummedSoFar g trees rest sums old new) (none : rest ≡ []) where
  all_done : s.done ≡ trees
  all_done = sym (s.cut ∙ ap (λ l. s.done ++ l) none ∙ append-nil s.done)

  pub all_summed : SumsUpTrees g trees sums
  all_summed = subst (λ l. SumsUpTrees g l sums) all_done s.summed

  pub all_sum_answered : AnswersMore trees old new
  all_sum_answered = subst (λ l. AnswersMore l old new) all_done s.answered

-- a made batch more
pub batch_made : (g now : Grammar) (first before after : Maker) (batch : List Tree) (sums next : Summing) (old new newer : Crew) → MadeSoFar g first before sums old new → now ≡ g
    → ((rest : List Tree) → AreToCome after rest → AreToCome before (batch ++ rest)) → length batch + after.left ≡ before.left → AreValid g batch
    → ((given : List Tree) → SumsUpTrees now given sums → SumsUpTrees now (given ++ batch) next) → AnswersMore batch new newer → MadeSoFar g first after next old newer
batch_made g now first before after batch sums next old new newer m same come fewer valid add answered = record {
  done = m.done ++ batch;
  comes = λ rest h. subst (λ l. AreToCome first l) (sym (append_assoc m.done batch rest)) (m.comes (batch ++ rest) (come rest h));
  few = (let e = m.few in let l = length-append m.done batch in omega (arith, e, l, fewer));
  valid = both_valid g m.done batch m.valid valid;
  summed = subst (λ x. SumsUpTrees x m.done sums → SumsUpTrees x (m.done ++ batch) next) same (add m.done) m.summed;
  answered = more_and_more m.done batch old new newer m.answered answered;
}

pub few_made : (g : Grammar) (first before after : Maker) (batch : List Tree) (sums : Summing) (old new : Crew) (most : ℕ) → MadeSoFar g first before sums old new → length batch + after.left ≡ before.left → first.left ≤ most
    → sums.count + length batch ≤ most
few_made g first before after batch sums old new most m fewer few =
    let count = summed_count g m.done sums m.summed in
    let e = m.few in
    omega (arith, count, e, fewer, few)

-- none were made yet
pub none_made : (g : Grammar) (maker : Maker) (sums : Summing) (c : Crew) → SumsUp sums [] → MadeSoFar g maker maker sums c c
none_made g maker sums c is = record {
  done = [];
  comes = λ rest h. h;
  few = omega arith;
  valid = λ tree there. absurd (let l = there.1 in omega arith);
  summed = none_summed g sums is;
  answered = none_more c;
}

-- all were made
pub all_made : (g : Grammar) (first last now : Maker) (sums : Summing) (old new : Crew) (batch : List Tree) → MadeSoFar g first now sums old new → batch ≡ []
    → ((rest : List Tree) → AreToCome last rest → AreToCome now (batch ++ rest)) → (batch ≡ [] → AreToCome last [])
    → (trees : List Tree) × AreToCome first trees × SumsUpTrees g trees sums × AreValid g trees × AnswersMore trees old new
all_made g first last now sums old new batch m none come ends =
    (m.done, subst (λ l. AreToCome first l) (append-nil m.done) (m.comes [] (subst (λ l. AreToCome now l) (append-nil batch ∙ none) (come [] (ends none)))), m.summed, m.valid, m.answered)

-- ---- the summary's text

pub table_told : TablesAreTold → (g : Grammar) (settings : Settings) (trees : List Tree) (report : Report) → AreValid g trees → TellsOf settings g trees report → IsToldBy report.used_up report.row_full g trees (report_text report)
table_told law g settings trees report valid t =
    let u = report.used_up in
    let r = report.row_full in
    let table = table_of (room_for settings) t.snapshot u r in
    subst (λ o. IsToldBy u r g trees (marked_text u r (state_count o) (key_count o))) (sym t.closed)
    (subst (λ n. IsToldBy u r g trees (marked_text u r (length (states_of t.snapshot)) n)) (length-map (transitions_of t.snapshot) (closed_transition (states_of t.snapshot)))
    (subst (λ n. IsToldBy u r g trees (marked_text u r n (length table.transitions))) (length-map (states_of t.snapshot) closed_state)
    (law g t.normal trees table t.form valid t.whole)))

pub summed_up : TablesAreTold → (g : Grammar) (settings : Settings) (trees : List Tree) (sums : Summing) (report : Report) (second covered : Bool) (items : List ℕ) (out now : SinkTold) (status : Status)
    → AreValid g trees → SumsUpTrees g trees sums → TellsOf settings g trees report → second ≡ has_second_costs g
    → ((answers : List Answer) → SumsUp sums answers → items ≡ summary_text second answers ++ report_text report)
    → ((answers : List Answer) → SumsUp sums answers → list_all is_covered answers ≡ covered)
    → Writes (IsThis covered items) out now status → SumsUpJob settings g trees out now status report
summed_up law g settings trees sums report second covered items out now status valid s tells is text all w = record { writes = written; reports = inr tells }
  where
    output : AreSummedUp g (marks_of report) trees covered items
    output = record {
      answers = s.answers;
      answer_trees = s.answer_trees;
      table = report_text report;
      tells = table_told law g settings trees report valid tells;
      written = text s.answers s.sums ∙ ap (λ b. summary_text b s.answers ++ report_text report) is;
      all_covered = all s.answers s.sums;
    }

    written : Writes (AreSummedUp g (marks_of report) trees) out now status
    written = this_written (AreSummedUp g (marks_of report) trees) covered items output out now status w

-- nothing was summed up, for want of memory
pub nothing_summed : (g : Grammar) (settings : Settings) (trees : List Tree) (sink : SinkTold) (r : Reported) → r ≡ record { status = NoMemory; report = nothing_reported } → SumsUpJob settings g trees sink sink r.status r.report
nothing_summed g settings trees sink r is = subst (λ (x : Reported). SumsUpJob settings g trees sink sink x.status x.report) (sym is) (record {
  writes = record { bytes = []; why = inl refl; written = nothing_taken sink.taken; keeps = output_kept sink NoMemory };
  reports = inl (refl, refl);
})

-- nothing was made
pub nothing_made : (g : Grammar) (settings : Settings) (seed count size : ℕ) (sink : SinkTold) (r : Reported) → r ≡ record { status = NoMemory; report = nothing_reported }
    → DoesJob settings (Make seed count size) g None sink sink r.status r.report
nothing_made g settings seed count size sink r is = subst (λ (x : Reported). DoesJob settings (Make seed count size) g None sink sink x.status x.report) (sym is) (record {
  writes = record { bytes = []; why = inl refl; written = nothing_taken sink.taken; keeps = output_kept sink NoMemory };
  reports = inl (refl, refl);
})

-- a made forest was summed up
made_some : (g : Grammar) (seed count size : ℕ) (trees : List Tree) (marks : TableMarks) (out now : SinkTold) (bytes : List ℕ) (status : Status) → IsMadeForest g seed count size (record { trees = trees })
    → WritesSome (AreSummedUp g marks trees) out now bytes status → WritesSome (IsOutput (Make seed count size) g None marks) out now bytes status
made_some g seed count size trees marks out now bytes WriteFault made (rose, (c, whole, is, front)) = (rose, (c, whole, (record { trees = trees }, made, is), front))
made_some g seed count size trees marks out now bytes NoMemory made (inl none) = inl none
made_some g seed count size trees marks out now bytes NoMemory made (inr (c, whole, is, front)) = inr (c, whole, (record { trees = trees }, made, is), front)
made_some g seed count size trees marks out now bytes Done made is = (record { trees = trees }, made, is)
made_some g seed count size trees marks out now bytes Uncovered made is = (record { trees = trees }, made, is)
made_some g seed count size trees marks out now bytes Usage made w = absurd w
made_some g seed count size trees marks out now bytes ReadFault made w = absurd w
made_some g seed count size trees marks out now bytes TooBig made w = absurd w
made_some g seed count size trees marks out now bytes (BadGrammar fault) made w = absurd w
made_some g seed count size trees marks out now bytes (BadForest fault) made w = absurd w
made_some g seed count size trees marks out now bytes (BadCertificate fault) made w = absurd w

pub made_does : (g : Grammar) (settings : Settings) (seed count size : ℕ) (trees : List Tree) (out now : SinkTold) (status : Status) (report : Report) → IsMadeForest g seed count size (record { trees = trees })
    → SumsUpJob settings g trees out now status report → DoesJob settings (Make seed count size) g None out now status report
made_does g settings seed count size trees out now status report made s = record {
  writes = record { bytes = (s.writes).bytes; why = made_some g seed count size trees (marks_of report) out now (s.writes).bytes status made (s.writes).why; written = (s.writes).written; keeps = (s.writes).keeps };
  reports = told s.reports;
}
  where
    told : ((report ≡ nothing_reported) × ((s.writes).bytes ≡ [])) ⊎ TellsOf settings g trees report
        → ((report ≡ nothing_reported) × ((s.writes).bytes ≡ [])) ⊎ ((forest : Forest) × IsMadeForest g seed count size forest × TellsOf settings g forest.trees report)
    told (inl none) = inl none
    told (inr tells) = inr (record { trees = trees }, made, tells)
