-- What a job knows of its crew, and of the sums that it takes.
use Rattle.std.specs.Prelude.{◌≡◌, ◌++◌, List}
use Rattle.sel_grammar.specs.declared.grammar.Grammar.{Grammar}
use Rattle.sel_forest.specs.declared.forest.Tree.{Tree}
use Rattle.sel_work.specs.declared.answer.Answer.{Answer}
use Rattle.sel_work.specs.declared.answer.Goal.TheVariants as goals
use Rattle.sel_words.specs.declared.settings.Settings.{Settings}
use Rattle.sel_crew.specs.declared.crew.Crew.{Crew}
use Rattle.sel_crew.specs.Crews.{IsCrew, HasAskedOnly, KeepsAll, CountsPlainOf, grammar_of, room_of}
use Rattle.sel_answers.specs.Output.{AreAnswers}
use Rattle.sel_answers.specs.Summing.{SumsUp}
use Rattle.sel_answers.specs.declared.summing.Summing.{Summing}
use Rattle.sel_cli.specs.Reporting.{room_for}

-- A crew over the grammar, made as the options say, that has answered these trees and no others.
pub record HasAnswered (g : Grammar) (settings : Settings) (trees : List Tree) (c : Crew) : Type 0 where
  pub crew : IsCrew c
  pub grammar_is : grammar_of c ≡ g
  pub room_is : room_of c ≡ room_for settings
  pub asked : HasAskedOnly trees c
  pub kept : KeepsAll trees c
  pub counted : CountsPlainOf trees c

-- the sums are those of the trees' covers
pub record SumsUpTrees (g : Grammar) (trees : List Tree) (summing : Summing) : Type 0 where
  pub answers : List Answer
  pub answer_trees : AreAnswers g goals.Cover trees answers
  pub sums : SumsUp summing answers

-- Whatever trees the crew had answered, it has answered these behind them.
abbrev pub AnswersMore : List Tree → Crew → Crew → Type 0
AnswersMore trees old new = (g : Grammar) (settings : Settings) (given : List Tree) → HasAnswered g settings given old → HasAnswered g settings (given ++ trees) new
