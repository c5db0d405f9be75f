use Rattle.sel_range.proofs.Deciding.{classes_are_few}
use Rattle.sel_range.proofs.laws.classes_are_few.Goals as goal

pub returns : goal.returns
returns c = classes_are_few
