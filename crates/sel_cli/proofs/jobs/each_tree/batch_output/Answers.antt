use Rattle.std.proofs.Common.{◌≡◌, ◌<◌, ◌+◌, ◌^◌, Bool, Result, Ok, Err, length, subst, sym, ap, ◌∙◌, arith, IfOk, refl}
use Rattle.std.specs.List.{list_all}
use Rattle.std.specs.Prelude.{List, ℕ}
use Rattle.sel_grammar.specs.declared.grammar.Grammar.{Grammar}
use Rattle.sel_forest.specs.declared.forest.Tree.{Tree}
use Rattle.sel_work.specs.declared.answer.Answer.{Answer}
use Rattle.sel_work.specs.declared.answer.Goal.{Goal}
use Rattle.sel_work.specs.declared.answer.Goal.TheVariants as goals
use Rattle.sel_count.specs.Things.{AreValid}
use Rattle.sel_crew.specs.Answers.{AreAnswersOf}
use Rattle.sel_answers.specs.declared.output.Output.{Output}
use Rattle.sel_answers.specs.Output.{AreAnswers, AreAnswered, AreNamed, answers_text, has_second_costs, is_covered}
use Rattle.sel_answers.proofs.Answering.{answers_of}
use Rattle.sel_cli.specs.declared.jobs.each_tree.Telling.{Telling}
use Rattle.sel_cli.specs.declared.jobs.each_tree.Telling.TheVariants as tells
use Rattle.sel_cli.specs.Parts.{AreTold, HasNames, goal_of}
use Rattle.sel_cli.proofs.Batches.{answers_count}
use Rattle.sel_cli.proofs.jobs.each_tree.batch_output.Goals as goal

-- the text of a batch's answers is what is to be told of it
answered : {E : Type 0} (g : Grammar) (goal : Goal) (before : ℕ) (batch : List Tree) (answers : List Answer) (second : Bool) (result : Result Output E) → second ≡ has_second_costs g → AreValid g batch
    → AreAnswersOf g goal batch answers → IfOk result (λ output. output.text.items ≡ answers_text second (before + 1) answers) → IfOk result (λ output. output.covered ≡ list_all is_covered answers)
    → IfOk result (λ output. AreAnswered g goal before batch output.covered output.text.items)
answered g goal before batch answers second (Ok output) is valid h text covered =
    record { answers = answers; answer_trees = answers_of g goal batch answers valid h; written = text ∙ ap (λ s. answers_text s (before + 1) answers) is; all_covered = sym covered }
answered g goal before batch answers second (Err e) is valid h text covered = tt

as_told : {E : Type 0} (g : Grammar) (telling known : Telling) (before : ℕ) (batch : List Tree) (result : Result Output E) → telling ≡ known
    → IfOk result (λ output. AreTold g known before batch output.covered output.text.items) → IfOk result (λ output. AreTold g telling before batch output.covered output.text.items)
as_told g telling known before batch result is h = subst (λ t. IfOk result (λ output. AreTold g t before batch output.covered output.text.items)) (sym is) h

pub answers_output-requires : goal.answers_output-requires
answers_output-requires c =
    let count = answers_count c.args.grammar.now (goal_of c.args.telling) c.args.batch.now c.args.answers.now c.requires.answers in
    let few = c.requires.few in
    record { few = omega (arith, count, few) }

pub returns-in-Answer : goal.returns-in-Answer
returns-in-Answer c =
    as_told c.args.grammar.now c.args.telling (tells.Answer c.in-Answer.field-0) c.args.before c.args.batch.now c.answers_output.result c.in-Answer.is
    (answered c.args.grammar.now c.in-Answer.field-0 c.args.before c.args.batch.now c.args.answers.now c.has_second_costs-second.result c.answers_output.result c.has_second_costs-second.ensures c.requires.trees
    (subst (λ t. AreAnswersOf c.args.grammar.now (goal_of t) c.args.batch.now c.args.answers.now) c.in-Answer.is c.requires.answers) c.answers_output.ensures.text c.answers_output.ensures.covered)

pub named_output-requires-clause-answers : goal.named_output-requires-clause-answers
named_output-requires-clause-answers c =
    answers_of c.args.grammar.now goals.Cover c.args.batch.now c.args.answers.now c.requires.trees (subst (λ t. AreAnswersOf c.args.grammar.now (goal_of t) c.args.batch.now c.args.answers.now) c.in-Named.is c.requires.answers)
