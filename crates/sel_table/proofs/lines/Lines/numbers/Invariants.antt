use Rattle.std.specs.Fmt.{decimal}
use Rattle.sel_table.specs.LineReading.{IsNumber}
use Rattle.sel_table.proofs.Taking.{SoFar}
use Rattle.sel_table.proofs.lines.Lines.numbers.Given as goal

abbrev pub invariant-lines : goal.invariant-lines
invariant-lines l = SoFar IsNumber decimal l.initial.self l.self l._line l.numbers
