use Rattle.std.proofs.Common.{sym, subst}
use Rattle.sel_items.specs.Words.{IsPackable, IsWordOf}
use Rattle.sel_items.proofs.Shifts.{put_together, packed}
use Rattle.sel_items.proofs.packing.pack.Goals as goal

pub returns-in-Some : goal.returns-in-Some
returns-in-Some c =
    let i = c.in-Some.item in
    let fits = subst IsPackable c.in-Some.is c.requires in
    subst (λ o. IsWordOf o (put_together i.cost.first i.cost.second i.rule)) (sym c.in-Some.is) (packed i.cost.first i.cost.second i.rule fits.0.0 fits.0.1 fits.0.2)
