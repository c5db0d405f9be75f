use Rattle.std.proofs.Common.{[], map, take}
use Rattle.sel_items.specs.Follows.{key_of}
use Rattle.sel_full.specs.Numbering.{NumbersMore}
use Rattle.sel_full.specs.Tables.{occurring}
use Rattle.sel_full.proofs.numbering.number_classes.Given as goal

abbrev pub invariant-loop-place : goal.invariant-loop-place
invariant-loop-place l = NumbersMore l.normal l.states l.initial.numbers l.numbers (map (λ class. key_of l.operator class []) (take l.place (occurring l.normal.tests)))
