use Rattle.sel_full.proofs.Rounds.{right_may, right_next, right_end}
use Rattle.sel_full.proofs.Taken.{took_none}
use Rattle.sel_full.proofs.taking.take_rights.Goals as goal

pub take-requires-clause-may : goal.take-requires-clause-may
take-requires-clause-may c = right_may c.args.normal.now c.args.operator c.args.last c.args.states.now c.loop-other.states c.loop-other.other c.requires.two c.requires.last c.loop-other-test.true c.loop-other.invariant.took

pub loop-other-init : goal.loop-other-init
loop-other-init c = record { took = λ i at. took_none c.args.normal.now c.args.states.now; found = c.requires.found }

pub loop-other-preserved : goal.loop-other-preserved
loop-other-preserved c = record {
  took = right_next c.args.normal.now c.args.operator c.args.last c.args.states.now c.loop-other.states c.take.new.states c.loop-other.other c.requires.last c.loop-other-test.true c.loop-other.invariant.took c.in_ok-take.ensures.took;
  found = c.in_ok-take.ensures.found;
}

pub returns-clause-took : goal.returns-clause-took
returns-clause-took c = right_end c.args.normal.now c.args.operator c.args.last c.args.states.now c.loop-other.states c.loop-other.other c.loop-other-test.false c.loop-other.auto.other-end c.loop-other.invariant.took
