use Rattle.sel_full.proofs.Placing.{start_more}
use Rattle.sel_full.proofs.places.starts_of.Goals as goal

pub loop-operator-preserved : goal.loop-operator-preserved
loop-operator-preserved c =
    start_more c.args.normal.now c.args.states.now _ _ _ _ _ _ c.loop-operator.invariant c.loop-operator-test.true c.kids_by-kids.ensures.is c.start_with-start.ensures c.next_start-at.ensures
