-- The answers of trees, in their order.
use Rattle.std.specs.Prelude.{List, [], ◌∷◌}
use Rattle.sel_grammar.specs.declared.grammar.Grammar.{Grammar}
use Rattle.sel_grammar.specs.PlainTrees.{PlainTree}
use Rattle.sel_forest.specs.declared.forest.Tree.{Tree}
use Rattle.sel_forest.specs.Postorder.{IsPostorderOf}
use Rattle.sel_work.specs.declared.answer.Answer.{Answer}
use Rattle.sel_work.specs.declared.answer.Goal.{Goal}
use Rattle.sel_work.specs.Answers.{IsTreeAnswer}

-- the answer of the tree that the nodes spell
abbrev pub IsAnswerOf : Grammar → Goal → Tree → Answer → Type 0
IsAnswerOf g goal tree answer = (t : PlainTree) → IsPostorderOf tree t → IsTreeAnswer g goal t answer

-- an answer for each tree, in their order
abbrev pub AreAnswersOf : Grammar → Goal → List Tree → List Answer → Type 0
AreAnswersOf g goal [] [] = Unit {0}
AreAnswersOf g goal (tree ∷ trees) (answer ∷ answers) = IsAnswerOf g goal tree answer × AreAnswersOf g goal trees answers
AreAnswersOf g goal _ _ = ⊥
