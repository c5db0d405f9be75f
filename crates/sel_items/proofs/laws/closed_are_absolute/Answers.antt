use Rattle.sel_items.proofs.ClosedRows.{closed_are_absolute}
use Rattle.sel_items.proofs.laws.closed_are_absolute.Goals as goal

pub returns : goal.returns
returns c = closed_are_absolute
