use Rattle.sel_named.proofs.Outcomes.{named_is_renamed, enough_are_named}
use Rattle.sel_named.proofs.laws.named_is_renamed.Goals as goal

pub returns : goal.returns
returns c = record { renamed = named_is_renamed; enough = enough_are_named }
