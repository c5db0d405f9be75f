use Rattle.sel_items.proofs.ItemLaws.{items_follow}
use Rattle.sel_items.proofs.laws.items_follow.Goals as goal

pub returns : goal.returns
returns c = items_follow
