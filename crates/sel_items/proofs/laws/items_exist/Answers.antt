use Rattle.sel_items.proofs.ItemLaws.{items_exist}
use Rattle.sel_items.proofs.laws.items_exist.Goals as goal

pub returns : goal.returns
returns c = items_exist
