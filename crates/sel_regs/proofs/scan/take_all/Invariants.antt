use Rattle.std.proofs.Common.{ℕ, ◌+◌, ◌<◌, ◌^◌, List, drop, length}
use Rattle.sel_regs.specs.declared.free.Free.{Free}
use Rattle.sel_regs.specs.Scanning.{AreTaken}
use Rattle.sel_regs.proofs.scan.take_all.Given as goal

abbrev pub invariant-begun : goal.invariant-begun
invariant-begun l =
    (l.free.fresh + length (drop l.index-index l.begun) < 2 ^ 32)
    × ((registers : List ℕ) (free : Free) → AreTaken (drop l.index-index l.begun) l.registers l.free registers free → AreTaken l.begun l.initial.registers l.initial.free registers free)
