use Rattle.sel_work.proofs.SomeAnswer.{some_answer}
use Rattle.sel_work.proofs.laws.answer_exists.Goals as goal

pub returns : goal.returns
returns c = some_answer c.items_exist.ensures
