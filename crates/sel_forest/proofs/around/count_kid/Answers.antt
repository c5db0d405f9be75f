use Rattle.std.proofs.Common.{refl, arith}
use Rattle.sel_forest.proofs.Lasts.{kid_counted}
use Rattle.sel_forest.proofs.around.count_kid.Goals as goal

pub returns-in-Some : goal.returns-in-Some
returns-in-Some c = let some = c.in-Some.ensures.variant.0 refl in kid_counted c.args.parents.now.items c.in-Some.parent.now _ _ (omega arith) (omega (arith, some)) c.in-Some.ensures.value
