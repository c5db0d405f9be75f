use Rattle.sel_label.proofs.Tabled.{numbered_not_plain}
use Rattle.sel_label.proofs.laws.numbered_are_not_plain.Goals as goal

pub returns : goal.returns
returns c = numbered_not_plain
