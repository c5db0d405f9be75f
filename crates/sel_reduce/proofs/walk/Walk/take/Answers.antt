-- The sum with the rule's cost is small.
use Rattle.sel_reduce.proofs.walk.Walk.take.Goals as goal

pub plus-self-requires : goal.plus-self-requires
plus-self-requires c = c.requires.small c.rule-rule.result c.rule-rule.ensures.is
