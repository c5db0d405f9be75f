use Rattle.sel_items.specs.EqualityLaws.{items_decide}
use Rattle.sel_items.proofs.same.equal_are_same.Goals as goal

pub returns : goal.returns
returns c = λ x y. items_decide x y
