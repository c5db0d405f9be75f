use Rattle.std.proofs.Common.{◌≡◌, ◌+◌, ◌++◌, List, take}
use Rattle.sel_work.specs.declared.answer.Answer.{Answer}
use Rattle.sel_answers.specs.Summing.{SumsUp}
use Rattle.sel_answers.proofs.summing.Summing.with_all.Given as goal

abbrev pub invariant-more : goal.invariant-more
invariant-more l = record {
  count : l.sums.count ≡ l.initial.sums.count + l.answer-index;
  summed : (answers : List Answer) → SumsUp l.initial.sums answers → SumsUp l.sums (answers ++ take l.answer-index l.fn.more);
}
