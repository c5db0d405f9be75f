use Rattle.sel_closing.proofs.AnyOrder.{plain_adds_up, counts_in_any_order}
use Rattle.sel_closing.proofs.laws.plain_counts_add_up.Goals as goal

pub returns : goal.returns
returns c = record { more = plain_adds_up; order = counts_in_any_order }
