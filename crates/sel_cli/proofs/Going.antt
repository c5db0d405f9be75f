-- What a job knows of its crew.
use Rattle.std.proofs.Common.{◌≡◌, List, [], ◌++◌, Option, Some, Result, Ok, Err, IfOk, OnOk, refl, sym, ap, subst, ◌∙◌}
use Rattle.sel_grammar.specs.declared.grammar.Grammar.{Grammar}
use Rattle.sel_forest.specs.declared.forest.Tree.{Tree}
use Rattle.sel_items.specs.Laws.{IsAcceptedForm}
use Rattle.sel_rows.specs.declared.snapshot.Snapshot.{Snapshot}
use Rattle.sel_count.specs.Things.{AreValid}
use Rattle.sel_count.specs.Counted.{IsCountedTable, IsWholeTable}
use Rattle.sel_closing.specs.SnapshotTables.{Room, table_of}
use Rattle.sel_words.specs.declared.settings.Settings.{Settings}
use Rattle.sel_crew.specs.declared.crew.Crew.{Crew}
use Rattle.sel_crew.specs.declared.report.Report.{Report}
use Rattle.sel_crew.specs.Crews.{IsCrew, IsBegunWith, HasAskedOnly, KeepsAll, CountsPlainOf, IsSameCrew, AsksOnlyMore, KeepsMore, CountsMore, grammar_of, normal_of, room_of}
use Rattle.sel_crew.specs.declared.options.Options.{Options}
use Rattle.sel_crew.specs.Options.{room_by}
use Rattle.sel_normal.specs.NormalForms.{NormalForm}
use Rattle.sel_crew.specs.Reports.{TellsCounted, TellsWhole, TellsPlainNodes}
use Rattle.sel_cli.specs.Crews.{HasAnswered, AnswersMore}
use Rattle.sel_cli.specs.Reporting.{TellsOf, room_for}

-- a crew that answered trees has answered them behind those before
pub answered_more : (trees : List Tree) (old new : Crew) → IsCrew new → IsSameCrew old new → AsksOnlyMore trees old new → KeepsMore trees old new → CountsMore trees old new → AnswersMore trees old new
answered_more trees old new crew same asked kept counted g settings given h = record {
  crew = crew;
  grammar_is = same.grammar ∙ h.grammar_is;
  room_is = ap room_by same.options_are ∙ h.room_is;
  asked = asked given h.asked;
  kept = kept given h.kept;
  counted = counted given h.counted;
}

-- a crew that was begun has answered no trees
begun_with : (g : Grammar) (settings : Settings) (normal : NormalForm) (options : Options) (c : Crew) → room_by options ≡ room_for settings → IsCrew c → IsBegunWith g normal options c → HasAskedOnly [] c → KeepsAll [] c
    → CountsPlainOf [] c → HasAnswered g settings [] c
begun_with g settings normal options c room crew begun asked kept counted = record {
  crew = crew;
  grammar_is = begun.grammar;
  room_is = ap room_by begun.options_are ∙ room;
  asked = asked;
  kept = kept;
  counted = counted;
}

pub begun_ok : {E : Type 0} (g : Grammar) (settings : Settings) (normal : NormalForm) (options : Options) (result : Result Crew E) → room_by options ≡ room_for settings → IfOk result IsCrew
    → IfOk result (IsBegunWith g normal options) → IfOk result (HasAskedOnly []) → IfOk result (KeepsAll []) → IfOk result (CountsPlainOf []) → IfOk result (HasAnswered g settings [])
begun_ok g settings normal options (Ok c) room crew begun asked kept counted = begun_with g settings normal options c room crew begun asked kept counted
begun_ok g settings normal options (Err e) room crew begun asked kept counted = tt

pub on_ok : {T E : Type 0} (P : Type 0) (result : Result T E) → P → OnOk result P
on_ok P (Ok x) p = p
on_ok P (Err e) p = tt

same_table : {A : Type 0} (told : Option A) (x y : A) → told ≡ Some x → told ≡ Some y → y ≡ x
same_table told x y p q = cc

-- what the closed crew's report tells
told_of : (g : Grammar) (settings : Settings) (trees : List Tree) (c : Crew) (report : Report) → HasAnswered g settings trees c
    → TellsCounted (grammar_of c) (normal_of c) (room_of c) trees report → TellsWhole (grammar_of c) (room_of c) trees report → TellsPlainNodes (grammar_of c) trees report → TellsOf settings g trees report
told_of g settings trees c report h counted whole plain = record {
  normal = normal_of c;
  form = subst (λ x. IsAcceptedForm x (normal_of c)) h.grammar_is (h.crew).form;
  snapshot = counted.closed;
  closed = counted.snapshot;
  counted = subst (λ (r : Room). IsCountedTable g (normal_of c) trees (table_of r counted.closed report.used_up report.row_full)) h.room_is
      (subst (λ x. IsCountedTable x (normal_of c) trees (table_of (room_of c) counted.closed report.used_up report.row_full)) h.grammar_is counted.counted);
  whole = subst (λ (r : Room). IsWholeTable g trees (table_of r counted.closed report.used_up report.row_full)) h.room_is
      (subst (λ x. IsWholeTable x trees (table_of (room_of c) counted.closed report.used_up report.row_full)) h.grammar_is
      (subst (λ (s : Snapshot). IsWholeTable (grammar_of c) trees (table_of (room_of c) s report.used_up report.row_full)) (same_table report.snapshot counted.closed whole.closed counted.snapshot whole.snapshot) whole.whole));
  plain_nodes = subst (λ x. TellsPlainNodes x trees report) h.grammar_is plain;
}

pub told_of_ok : {E : Type 0} (g : Grammar) (settings : Settings) (trees : List Tree) (c : Crew) (result : Result Report E) → AreValid g trees → HasAnswered g settings trees c
    → IfOk result (λ report. (trees : List Tree) → AreValid (grammar_of c) trees → HasAskedOnly trees c → TellsCounted (grammar_of c) (normal_of c) (room_of c) trees report)
    → IfOk result (λ report. (trees : List Tree) → AreValid (grammar_of c) trees → HasAskedOnly trees c → KeepsAll trees c → TellsWhole (grammar_of c) (room_of c) trees report)
    → IfOk result (λ report. (trees : List Tree) → CountsPlainOf trees c → TellsPlainNodes (grammar_of c) trees report)
    → IfOk result (TellsOf settings g trees)
told_of_ok g settings trees c (Ok report) valid h counted whole plain =
    let v : AreValid (grammar_of c) trees = subst (λ x. AreValid x trees) (sym h.grammar_is) valid in
    told_of g settings trees c report h (counted trees v h.asked) (whole trees v h.asked h.kept) (plain trees h.counted)
told_of_ok g settings trees c (Err e) valid h counted whole plain = tt
