use Rattle.sel_items.proofs.ItemLaws.{follows_is_one}
use Rattle.sel_items.proofs.laws.follows_is_one.Goals as goal

pub returns : goal.returns
returns c = follows_is_one
