use Rattle.std.proofs.Common.{◌≤◌, subst}
use Rattle.sel_full.proofs.KeySteps.{leaf_may}
use Rattle.sel_full.proofs.Numbered.{more_none, class_more, class_whole}
use Rattle.sel_full.proofs.Rounds.{class_may}
use Rattle.sel_full.proofs.numbering.number_classes.Goals as goal

pub number_key-requires-clause-may : goal.number_key-requires-clause-may
number_key-requires-clause-may c = leaf_may c.args.normal.now c.args.states.now c.args.operator c.class_at-class.result c.requires.leaf (class_may c.args.normal.now c.class_at-class.result _ c.classes-in-loop-place.ensures c.class_at-class.ensures.occurs)

pub loop-place-init : goal.loop-place-init
loop-place-init c = more_none c.args.normal.now c.args.states.now c.args.numbers.now

pub loop-place-preserved : goal.loop-place-preserved
loop-place-preserved c =
    class_more c.args.normal.now c.args.states.now c.args.numbers.now c.loop-place.numbers c.number_key.new.numbers c.args.operator c.loop-place.place c.class_at-class.result _ c.classes-in-loop-place.ensures c.class_at-class.ensures.is c.loop-place.invariant c.in_ok-number_key.ensures

pub returns : goal.returns
returns c = class_whole c.args.normal.now c.args.states.now c.args.numbers.now c.loop-place.numbers c.args.operator c.loop-place.place _ c.classes.ensures (subst (λ n. n ≤ c.loop-place.place) c.class_count-place-end.ensures.is c.loop-place-test.false) c.loop-place.invariant
