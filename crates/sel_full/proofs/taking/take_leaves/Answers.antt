use Rattle.sel_full.proofs.Rounds.{leaves_none, leaves_next, leaves_end}
use Rattle.sel_full.proofs.taking.take_leaves.Goals as goal

pub loop-operator-init : goal.loop-operator-init
loop-operator-init c = record { took = leaves_none c.args.normal.now c.args.states.now; found = c.requires.found }

pub loop-operator-preserved : goal.loop-operator-preserved
loop-operator-preserved c = record {
  took = leaves_next c.args.normal.now c.args.states.now c.loop-operator.states c.take_leaf.new.states c.loop-operator.operator c.loop-operator.invariant.took c.in_ok-take_leaf.ensures.took;
  found = c.in_ok-take_leaf.ensures.found;
}

pub returns-clause-took : goal.returns-clause-took
returns-clause-took c = leaves_end c.args.normal.now c.args.states.now c.loop-operator.states c.loop-operator.operator c.loop-operator-test.false c.loop-operator.auto.operator-end c.loop-operator.invariant.took
