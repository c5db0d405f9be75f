use Rattle.std.proofs.Common.{take}
use Rattle.sel_regs.specs.Living.{IsNoted}
use Rattle.sel_regs.proofs.lives.note_line.Given as goal

abbrev pub invariant-names : goal.invariant-names
invariant-names l = IsNoted (take l.temp-index l.line) l.at l.initial.lives l.lives
