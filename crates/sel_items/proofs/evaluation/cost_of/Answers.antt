use Rattle.std.proofs.Common.{ap}
use Rattle.std.specs.Option.{option_copied}
use Rattle.sel_items.proofs.Widths.{IsBelow-47}
use Rattle.sel_items.proofs.evaluation.cost_of.Goals as goal

pub kid_cost-requires : goal.kid_cost-requires
kid_cost-requires c = record { small = c.requires.first c.in-Some.first.now (ap option_copied c.in-Some.is) }

pub kid_cost-requires-in-Some-second-2 : goal.kid_cost-requires-in-Some-second-2
kid_cost-requires-in-Some-second-2 c = record { small = c.requires.first c.in-Some.first.now (ap option_copied c.in-Some.is) }

pub kid_cost-requires-in-Some-second-2-2 : goal.kid_cost-requires-in-Some-second-2-2
kid_cost-requires-in-Some-second-2-2 c = record { small = c.requires.second c.in-Some-second-2.second.now (ap option_copied c.in-Some-second-2.is) }

pub returns-in-None-second-clause-low : goal.returns-in-None-second-clause-low
returns-in-None-second-clause-low c = λ k h. IsBelow-47 k (c.kid_cost.ensures.low k h)
