use Rattle.sel_full.proofs.Rounds.{round_none, round_within, round_next, round_end}
use Rattle.sel_full.proofs.taking.take_round.Goals as goal

pub take_operator-requires-clause-last : goal.take_operator-requires-clause-last
take_operator-requires-clause-last c = round_within c.args.normal.now c.args.last c.args.states.now c.loop-operator.states c.loop-operator.operator c.requires.last c.loop-operator.invariant.took

pub loop-operator-init : goal.loop-operator-init
loop-operator-init c = record { took = round_none c.args.normal.now c.args.last c.args.states.now; found = c.requires.found }

pub loop-operator-preserved : goal.loop-operator-preserved
loop-operator-preserved c = record {
  took = round_next c.args.normal.now c.args.last c.args.states.now c.loop-operator.states c.take_operator.new.states c.loop-operator.operator c.requires.last c.loop-operator.invariant.took c.in_ok-take_operator.ensures.took;
  found = c.in_ok-take_operator.ensures.found;
}

pub returns-clause-took : goal.returns-clause-took
returns-clause-took c = round_end c.args.normal.now c.args.last c.args.states.now c.loop-operator.states c.loop-operator.operator c.requires.last c.loop-operator-test.false c.loop-operator.auto.operator-end c.loop-operator.invariant.took
