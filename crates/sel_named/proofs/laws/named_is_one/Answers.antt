use Rattle.sel_named.proofs.Outcomes.{named_is_one, named_exists}
use Rattle.sel_named.proofs.laws.named_is_one.Goals as goal

pub returns : goal.returns
returns c = record { one = named_is_one; some = named_exists }
