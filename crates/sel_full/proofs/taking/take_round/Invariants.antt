use Rattle.std.proofs.Common.{◌≡◌, Some, take, slice_get}
use Rattle.sel_items.specs.declared.items.Items.{Items}
use Rattle.sel_full.specs.Finding.{kid_keys_below}
use Rattle.sel_full.specs.Taking.{Took, AreFound}
use Rattle.sel_full.proofs.taking.take_round.Given as goal

abbrev pub invariant-loop-operator : goal.invariant-loop-operator
invariant-loop-operator l = record { took : (i : Items) → slice_get l.initial.states l.last ≡ Some i → Took l.normal l.initial.states l.states (kid_keys_below l.normal (take l.last l.initial.states) i l.operator); found : AreFound l.normal l.limits.states l.limits.rows l.states }
