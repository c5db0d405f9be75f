use Rattle.sel_full.specs.Finding.{leaf_keys_below}
use Rattle.sel_full.specs.Taking.{Took, AreFound}
use Rattle.sel_full.proofs.taking.take_leaves.Given as goal

abbrev pub invariant-loop-operator : goal.invariant-loop-operator
invariant-loop-operator l = record { took : Took l.normal l.initial.states l.states (leaf_keys_below l.normal l.operator); found : AreFound l.normal l.limits.states l.limits.rows l.states }
