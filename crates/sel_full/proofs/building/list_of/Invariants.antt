use Rattle.std.proofs.Common.{◌≡◌, take}
use Rattle.sel_full.proofs.building.list_of.Given as goal

abbrev pub invariant-loop-items : goal.invariant-loop-items
invariant-loop-items l = l.list ≡ take l.items-index l.states
