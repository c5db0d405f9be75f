use Rattle.sel_range.proofs.Deciding.{passes_by_class}
use Rattle.sel_range.proofs.laws.passes_by_class.Goals as goal

pub returns : goal.returns
returns c = passes_by_class
