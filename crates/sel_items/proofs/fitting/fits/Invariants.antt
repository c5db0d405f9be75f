use Rattle.std.proofs.Common.{◌≡◌, ◌<◌, ℕ, Some}
use Rattle.sel_items.specs.declared.items.Item.{Item}
use Rattle.sel_items.specs.Entries.{item_at}
use Rattle.sel_items.specs.Words.{FitsWord}
use Rattle.sel_items.proofs.fitting.fits.Given as goal

abbrev pub invariant-loop-n : goal.invariant-loop-n
invariant-loop-n l = (k : ℕ) (item : Item) → k < l.n → item_at l.items.entries k ≡ Some item → FitsWord item.cost
