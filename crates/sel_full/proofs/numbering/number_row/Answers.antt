use Rattle.std.proofs.Common.{arith}
use Rattle.sel_full.proofs.KeySteps.{two_may}
use Rattle.sel_full.proofs.Numbered.{more_none, row_more, row_whole}
use Rattle.sel_full.proofs.numbering.number_row.Goals as goal

pub number_key-requires-clause-may : goal.number_key-requires-clause-may
number_key-requires-clause-may c =
    let h = c.loop-right-test.true in
    let e = c.len-right-end.ensures in
    two_may c.args.normal.now c.args.states.now c.args.operator c.args.left c.loop-right.right c.requires.two c.requires.left (omega arith)

pub loop-right-init : goal.loop-right-init
loop-right-init c = λ i at. more_none c.args.normal.now c.args.states.now c.args.numbers.now

pub loop-right-preserved : goal.loop-right-preserved
loop-right-preserved c =
    let h = c.loop-right-test.true in
    let e = c.len-right-end.ensures in
    row_more c.args.normal.now c.args.states.now c.args.operator c.args.left c.args.numbers.now c.loop-right.numbers c.number_key.new.numbers c.loop-right.right (omega arith) c.loop-right.invariant c.in_ok-number_key.ensures

pub returns : goal.returns
returns c =
    let h = c.loop-right-test.false in
    let e = c.len-right-end.ensures in
    row_whole c.args.normal.now c.args.states.now c.args.operator c.args.left c.args.numbers.now c.loop-right.numbers c.loop-right.right (omega arith) c.loop-right.invariant
