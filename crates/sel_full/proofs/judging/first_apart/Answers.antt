use Rattle.sel_full.proofs.Judged.{apart_more, none_apart}
use Rattle.sel_full.proofs.judging.first_apart.Goals as goal

pub loop-place-preserved : goal.loop-place-preserved
loop-place-preserved c = apart_more c.args.own.now c.args.numbers.now c.loop-place.place _ _ c.requires c.loop-place-test.true (c.is_number.ensures.yes c.if-not-is_number.false) c.loop-place.invariant

pub returns : goal.returns
returns c = none_apart c.args.own.now c.args.numbers.now c.loop-place.place c.loop-place-test.false c.loop-place.invariant
