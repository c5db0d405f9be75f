use Rattle.sel_check.proofs.OneAnswer.{certified_is_proved}
use Rattle.sel_check.proofs.laws.certified_is_proved.Goals as goal

pub returns : goal.returns
returns c = certified_is_proved
