use Rattle.std.proofs.Common.{arith}
use Rattle.sel_full.proofs.KeySteps.{one_may}
use Rattle.sel_full.proofs.Numbered.{more_none, single_more, more_whole}
use Rattle.sel_full.proofs.numbering.number_singles.Goals as goal

pub number_key-requires-clause-may : goal.number_key-requires-clause-may
number_key-requires-clause-may c = let h = c.loop-kid-test.true in let e = c.len-kid-end.ensures in one_may c.args.normal.now c.args.states.now c.args.operator c.loop-kid.kid c.requires.one (omega arith)

pub loop-kid-init : goal.loop-kid-init
loop-kid-init c = more_none c.args.normal.now c.args.states.now c.args.numbers.now

pub loop-kid-preserved : goal.loop-kid-preserved
loop-kid-preserved c =
    let h = c.loop-kid-test.true in
    let e = c.len-kid-end.ensures in
    single_more c.args.normal.now c.args.states.now c.args.numbers.now c.loop-kid.numbers c.number_key.new.numbers c.args.operator c.loop-kid.kid (omega arith) c.loop-kid.invariant c.in_ok-number_key.ensures

pub returns : goal.returns
returns c =
    let h = c.loop-kid-test.false in
    let e = c.len-kid-end.ensures in
    more_whole c.args.normal.now c.args.states.now c.args.numbers.now c.loop-kid.numbers _ c.args.states.now c.loop-kid.kid (omega arith) c.loop-kid.invariant
