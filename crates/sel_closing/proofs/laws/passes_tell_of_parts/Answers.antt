use Rattle.sel_closing.proofs.Asks.{passes_tell_of_parts}
use Rattle.sel_closing.proofs.laws.passes_tell_of_parts.Goals as goal

pub returns : goal.returns
returns c = passes_tell_of_parts
