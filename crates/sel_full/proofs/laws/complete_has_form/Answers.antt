use Rattle.sel_full.proofs.Formed.{complete_has_form}
use Rattle.sel_full.proofs.laws.complete_has_form.Goals as goal

pub returns : goal.returns
returns c = complete_has_form
