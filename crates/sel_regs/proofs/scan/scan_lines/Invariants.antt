use Rattle.std.proofs.Common.{length}
use Rattle.sel_regs.proofs.Passing.{Swept}
use Rattle.sel_regs.proofs.scan.scan_lines.Given as goal

abbrev pub invariant-lines : goal.invariant-lines
invariant-lines l = Swept l.fn.lines l.fn.begun (length l.fn.lives) l.at l.registers.items l.free
