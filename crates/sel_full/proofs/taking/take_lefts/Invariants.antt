use Rattle.std.proofs.Common.{◌≡◌, ◌∷◌, [], Some, map, take, slice_get}
use Rattle.sel_items.specs.declared.items.Items.{Items}
use Rattle.sel_items.specs.Follows.{key_of}
use Rattle.sel_full.specs.Taking.{Took, AreFound}
use Rattle.sel_full.proofs.taking.take_lefts.Given as goal

abbrev pub invariant-loop-other : goal.invariant-loop-other
invariant-loop-other l = record { took : (i : Items) → slice_get l.initial.states l.last ≡ Some i → Took l.normal l.initial.states l.states (map (λ j. key_of l.operator 0 (j ∷ i ∷ [])) (take l.other l.initial.states)); found : AreFound l.normal l.limits.states l.limits.rows l.states }
