use Rattle.std.proofs.Common.{arith}
use Rattle.sel_full.proofs.Numbered.{more_none, pairs_more, pairs_whole}
use Rattle.sel_full.proofs.numbering.number_pairs.Goals as goal

pub loop-left-init : goal.loop-left-init
loop-left-init c = more_none c.args.normal.now c.args.states.now c.args.numbers.now

pub loop-left-preserved : goal.loop-left-preserved
loop-left-preserved c =
    let h = c.loop-left-test.true in
    let e = c.len-left-end.ensures in
    pairs_more c.args.normal.now c.args.states.now c.args.operator c.args.numbers.now c.loop-left.numbers c.number_row.new.numbers c.loop-left.left (omega arith) c.loop-left.invariant c.in_ok-number_row.ensures

pub returns : goal.returns
returns c =
    let h = c.loop-left-test.false in
    let e = c.len-left-end.ensures in
    pairs_whole c.args.normal.now c.args.states.now c.args.operator c.args.numbers.now c.loop-left.numbers c.loop-left.left (omega arith) c.loop-left.invariant
