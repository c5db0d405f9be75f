use Rattle.sel_items.proofs.evaluation.sum_of.Goals as goal

pub sum-requires-clause-a : goal.sum-requires-clause-a
sum-requires-clause-a c = c.requires.a c.in-Some.a c.in-Some.is

pub sum-requires-clause-b : goal.sum-requires-clause-b
sum-requires-clause-b c = c.requires.b c.in-Some-b.b c.in-Some-b.is
