use Rattle.std.proofs.Common.{◌≡◌, Some, map, take}
use Rattle.sel_full.proofs.building.all_there.Given as goal

abbrev pub invariant-loop-number : goal.invariant-loop-number
invariant-loop-number l = map Some l.numbers ≡ take l.number-index l.found
