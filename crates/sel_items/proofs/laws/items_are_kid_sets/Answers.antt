use Rattle.sel_items.proofs.KidSetLaws.{items_are_kid_sets}
use Rattle.sel_items.proofs.laws.items_are_kid_sets.Goals as goal

pub returns : goal.returns
returns c = items_are_kid_sets
