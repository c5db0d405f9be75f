use Rattle.sel_full.specs.Numbering.{AreNumbers}
use Rattle.sel_full.specs.Tables.{keys_below}
use Rattle.sel_full.proofs.numbering.number_all.Given as goal

abbrev pub invariant-loop-operator : goal.invariant-loop-operator
invariant-loop-operator l = AreNumbers l.normal l.states l.numbers (keys_below l.normal l.states l.operator)
