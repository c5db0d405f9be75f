-- Laws of answers.
use Rattle.std.specs.Prelude.{◌≡◌}
use Rattle.sel_grammar.specs.declared.grammar.Grammar.{Grammar}
use Rattle.sel_grammar.specs.Lawful.{IsLawful}
use Rattle.sel_grammar.specs.PlainTrees.{PlainTree}
use Rattle.sel_normal.specs.NormalFaults.{IsAccepted}
use Rattle.sel_work.specs.declared.answer.Answer.{Answer}
use Rattle.sel_work.specs.declared.answer.Goal.{Goal}
use Rattle.sel_work.specs.Answers.{IsTreeAnswer}

-- A tree has at most one answer for a goal.
abbrev pub AnswerIsOne : Type 0
AnswerIsOne = (g : Grammar) (goal : Goal) (t : PlainTree) (a b : Answer) → IsTreeAnswer g goal t a → IsTreeAnswer g goal t b → a ≡ b

-- Under a grammar that is lawful and accepted each tree has an answer for each goal.
abbrev pub AnswerExists : Type 0
AnswerExists = (g : Grammar) (goal : Goal) (t : PlainTree) → IsLawful g → IsAccepted g → (a : Answer) × IsTreeAnswer g goal t a
