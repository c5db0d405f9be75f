use Rattle.std.proofs.Common.{take}
use Rattle.sel_full.specs.Numbering.{NumbersMore}
use Rattle.sel_full.proofs.Numbered.{pair_keys}
use Rattle.sel_full.proofs.numbering.number_pairs.Given as goal

abbrev pub invariant-loop-left : goal.invariant-loop-left
invariant-loop-left l = NumbersMore l.normal l.states l.initial.numbers l.numbers (pair_keys l.states l.operator (take l.left l.states))
