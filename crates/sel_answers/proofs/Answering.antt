-- The answers of trees, and their text.
use Rattle.std.proofs.Common.{◌≡◌, ℕ, ◌+◌, Bool, List, [], ◌∷◌, ◌++◌, length, refl, sym, ap, ◌∙◌, append_assoc, arith}
use Rattle.sel_grammar.specs.declared.grammar.Grammar.{Grammar}
use Rattle.sel_forest.specs.declared.forest.Tree.{Tree}
use Rattle.sel_work.specs.declared.answer.Answer.{Answer}
use Rattle.sel_work.specs.declared.answer.Goal.{Goal}
use Rattle.sel_count.specs.Things.{AreValid}
use Rattle.sel_crew.specs.Answers.{AreAnswersOf}
use Rattle.sel_answers.proofs.TreeLists.{valid_head, valid_tail}
use Rattle.sel_answers.specs.Output.{AreAnswers, answer_text, answers_text}

-- the answers of trees, one behind the other
pub answers-append : (g : Grammar) (goal : Goal) (trees more : List Tree) (answers others : List Answer)
    → AreAnswers g goal trees answers → AreAnswers g goal more others → AreAnswers g goal (trees ++ more) (answers ++ others)
answers-append g goal [] more [] others h k = k
answers-append g goal [] more (a ∷ answers) others h k = absurd h
answers-append g goal (t ∷ trees) more [] others h k = absurd h
answers-append g goal (t ∷ trees) more (a ∷ answers) others h k = (h.0, answers-append g goal trees more answers others h.1 k)

pub answers-length : (g : Grammar) (goal : Goal) (trees : List Tree) (answers : List Answer) → AreAnswers g goal trees answers → length answers ≡ length trees
answers-length g goal [] [] h = refl
answers-length g goal [] (a ∷ answers) h = absurd h
answers-length g goal (t ∷ trees) [] h = absurd h
answers-length g goal (t ∷ trees) (a ∷ answers) h = let e = answers-length g goal trees answers h.1 in omega arith

pub answers_text-append : (second : Bool) (number : ℕ) (answers others : List Answer)
    → answers_text second number (answers ++ others) ≡ answers_text second number answers ++ answers_text second (number + length answers) others
answers_text-append second number [] others = ap (λ n. answers_text second n others) (omega arith)
answers_text-append second number (a ∷ answers) others =
    ap (λ l. answer_text second number a ++ l) (answers_text-append second (number + 1) answers others)
    ∙ sym (append_assoc (answer_text second number a) (answers_text second (number + 1) answers) (answers_text second (number + 1 + length answers) others))
    ∙ ap (λ n. (answer_text second number a ++ answers_text second (number + 1) answers) ++ answers_text second n others) (omega arith)

-- the answers of whatever trees the nodes spell are those of the valid trees
pub answers_of : (g : Grammar) (goal : Goal) (trees : List Tree) (answers : List Answer) → AreValid g trees → AreAnswersOf g goal trees answers → AreAnswers g goal trees answers
answers_of g goal [] [] valid h = tt
answers_of g goal [] (a ∷ answers) valid h = absurd h
answers_of g goal (t ∷ trees) [] valid h = absurd h
answers_of g goal (t ∷ trees) (a ∷ answers) valid h =
    let v = valid_head g t trees valid in
    ((v.plain, v.postorder, h.0 v.plain v.postorder), answers_of g goal trees answers (valid_tail g t trees valid) h.1)
