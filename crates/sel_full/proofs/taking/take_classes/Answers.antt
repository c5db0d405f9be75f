use Rattle.std.proofs.Common.{◌≤◌, subst}
use Rattle.sel_full.proofs.KeySteps.{leaf_may}
use Rattle.sel_full.proofs.Rounds.{class_next, class_may, class_end}
use Rattle.sel_full.proofs.Taken.{took_none}
use Rattle.sel_full.proofs.taking.take_classes.Goals as goal

pub take-requires-clause-may : goal.take-requires-clause-may
take-requires-clause-may c = leaf_may c.args.normal.now c.loop-place.states c.args.operator c.class_at-class.result c.requires.leaf (class_may c.args.normal.now c.class_at-class.result _ c.classes-in-loop-place.ensures c.class_at-class.ensures.occurs)

pub loop-place-init : goal.loop-place-init
loop-place-init c = record { took = took_none c.args.normal.now c.args.states.now; found = c.requires.found }

pub loop-place-preserved : goal.loop-place-preserved
loop-place-preserved c = record {
  took = class_next c.args.normal.now c.args.states.now c.loop-place.states c.take.new.states c.args.operator c.loop-place.place c.class_at-class.result _ c.classes-in-loop-place.ensures c.class_at-class.ensures.is c.loop-place.invariant.took c.in_ok-take.ensures.took;
  found = c.in_ok-take.ensures.found;
}

pub returns-clause-took : goal.returns-clause-took
returns-clause-took c = class_end c.args.normal.now c.args.states.now c.loop-place.states c.args.operator c.loop-place.place _ c.classes.ensures (subst (λ n. n ≤ c.loop-place.place) c.class_count-place-end.ensures.is c.loop-place-test.false) c.loop-place.invariant.took
