use Rattle.std.proofs.Common.{◌≡◌, ◌+◌, ◌++◌, drop}
use Rattle.sel_answers.specs.Output.{named_answers_text}
use Rattle.sel_answers.proofs.named.put_named_answers.Given as goal

abbrev pub invariant-answers : goal.invariant-answers
invariant-answers l = record {
  behind : l.number ≡ l.fn.before + l.answer-index;
  rest : l.text.items ++ named_answers_text l.fn.second (l.number + 1) (drop l.answer-index l.fn.answers) ≡ l.initial.text.items ++ named_answers_text l.fn.second (l.fn.before + 1) l.fn.answers;
}
