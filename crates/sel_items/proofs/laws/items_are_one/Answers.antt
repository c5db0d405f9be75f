use Rattle.sel_items.proofs.ItemLaws.{items_are_one}
use Rattle.sel_items.proofs.laws.items_are_one.Goals as goal

pub returns : goal.returns
returns c = items_are_one
