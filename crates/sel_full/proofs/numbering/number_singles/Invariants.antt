use Rattle.std.proofs.Common.{◌∷◌, [], map, take}
use Rattle.sel_items.specs.Follows.{key_of}
use Rattle.sel_full.specs.Numbering.{NumbersMore}
use Rattle.sel_full.proofs.numbering.number_singles.Given as goal

abbrev pub invariant-loop-kid : goal.invariant-loop-kid
invariant-loop-kid l = NumbersMore l.normal l.states l.initial.numbers l.numbers (map (λ i. key_of l.operator 0 (i ∷ [])) (take l.kid l.states))
