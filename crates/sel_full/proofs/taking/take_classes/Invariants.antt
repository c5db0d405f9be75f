use Rattle.std.proofs.Common.{[], map, take}
use Rattle.sel_items.specs.Follows.{key_of}
use Rattle.sel_full.specs.Tables.{occurring}
use Rattle.sel_full.specs.Taking.{Took, AreFound}
use Rattle.sel_full.proofs.taking.take_classes.Given as goal

abbrev pub invariant-loop-place : goal.invariant-loop-place
invariant-loop-place l = record { took : Took l.normal l.initial.states l.states (map (λ class. key_of l.operator class []) (take l.place (occurring l.normal.tests))); found : AreFound l.normal l.limits.states l.limits.rows l.states }
