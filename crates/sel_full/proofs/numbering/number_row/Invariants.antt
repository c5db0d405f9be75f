use Rattle.sel_full.proofs.Numbered.{RowMore}
use Rattle.sel_full.proofs.numbering.number_row.Given as goal

abbrev pub invariant-loop-right : goal.invariant-loop-right
invariant-loop-right l = RowMore l.normal l.states l.operator l.left l.initial.numbers l.numbers l.right
