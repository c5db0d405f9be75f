use Rattle.std.proofs.Common.{◌≡◌, take}
use Rattle.sel_crew.specs.Answers.{AreAnswersOf}
use Rattle.sel_ahead.proofs.Answered.{IsOver}
use Rattle.sel_ahead.proofs.answers.answer_counted.Given as goal

abbrev pub invariant-loop-tree : goal.invariant-loop-tree
invariant-loop-tree g l = record { over : IsOver l.normal l.table.states l.table.numbers l.automaton; answers : AreAnswersOf l.grammar l.goal (take l.tree-index l.trees) l.answers; no_step : l.steps ≡ l.initial.steps }
