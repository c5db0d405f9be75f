use Rattle.sel_items.proofs.ItemLaws.{items_of_follow}
use Rattle.sel_items.proofs.laws.items_of_follow.Goals as goal

pub returns : goal.returns
returns c = items_of_follow
