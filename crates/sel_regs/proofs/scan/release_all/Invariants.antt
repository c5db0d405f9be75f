use Rattle.std.proofs.Common.{take}
use Rattle.sel_regs.specs.Scanning.{AreReleased}
use Rattle.sel_regs.proofs.scan.release_all.Given as goal

abbrev pub invariant-names : goal.invariant-names
invariant-names l = AreReleased (take l.temp-index l.line) l.lives l.registers l.«end» l.initial.free l.free
