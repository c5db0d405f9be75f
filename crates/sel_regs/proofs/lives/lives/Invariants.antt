use Rattle.std.proofs.Common.{take}
use Rattle.sel_regs.specs.Living.{AreLives}
use Rattle.sel_regs.proofs.lives.lives.Given as goal

abbrev pub invariant-lines : goal.invariant-lines
invariant-lines l = AreLives (take l.at l.lines) l.temps l.lives.items
