use Rattle.sel_full.proofs.Numbered.{below_more, below_whole}
use Rattle.sel_full.proofs.numbering.number_all.Goals as goal

pub loop-operator-preserved : goal.loop-operator-preserved
loop-operator-preserved c = below_more c.args.normal.now c.args.states.now c.loop-operator.numbers c.number_operator.new.numbers c.loop-operator.operator c.loop-operator.invariant c.in_ok-number_operator.ensures

pub returns : goal.returns
returns c = below_whole c.args.normal.now c.args.states.now c.loop-operator.numbers c.loop-operator.operator c.loop-operator-test.false c.loop-operator.auto.operator-end c.loop-operator.invariant
