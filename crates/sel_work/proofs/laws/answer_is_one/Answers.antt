use Rattle.sel_work.proofs.OneAnswer.{answer_one}
use Rattle.sel_work.proofs.laws.answer_is_one.Goals as goal

pub returns : goal.returns
returns c = answer_one
