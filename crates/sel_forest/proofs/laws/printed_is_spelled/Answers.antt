use Rattle.sel_forest.proofs.Reprinting.{printed_spells}
use Rattle.sel_forest.proofs.laws.printed_is_spelled.Goals as goal

pub returns : goal.returns
returns c = λ g forest text names. printed_spells g names forest text
