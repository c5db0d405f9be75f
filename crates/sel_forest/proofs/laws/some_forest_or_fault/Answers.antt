use Rattle.sel_forest.proofs.SomeAnswer.{some_answer}
use Rattle.sel_forest.proofs.laws.some_forest_or_fault.Goals as goal

pub returns : goal.returns
returns c = some_answer
