use Rattle.sel_gen.proofs.Existence.{made_exists}
use Rattle.sel_gen.proofs.laws.made_exists.Goals as goal

pub returns : goal.returns
returns c = made_exists
