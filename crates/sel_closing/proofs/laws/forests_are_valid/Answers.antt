use Rattle.sel_closing.proofs.Asks.{forests_are_valid}
use Rattle.sel_closing.proofs.laws.forests_are_valid.Goals as goal

pub returns : goal.returns
returns c = forests_are_valid
