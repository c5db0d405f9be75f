use Rattle.sel_label.proofs.Tabled.{numbered_tabled}
use Rattle.sel_label.proofs.laws.numbered_are_tabled.Goals as goal

pub returns : goal.returns
returns c = numbered_tabled
