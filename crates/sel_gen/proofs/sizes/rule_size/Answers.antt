-- The sums are small, so they are the sums.
use Rattle.std.proofs.Common.{arith}
use Rattle.sel_gen.proofs.Sums.{kids_some, some_size, no_size}
use Rattle.sel_gen.proofs.sizes.rule_size.Goals as goal

pub overflow_add-result : goal.overflow_add-result
overflow_add-result c = let h = kids_some c.args.sizes.now c.args.rule.now.pattern c.in-Some.size c.requires.sizes c.requires.names c.in-Some.ensures in omega arith

pub returns-in-Some : goal.returns-in-Some
returns-in-Some c = some_size c.args.sizes.now c.args.rule.now.pattern c.in-Some.size c.requires.sizes c.requires.names c.in-Some.ensures

pub returns-in-None : goal.returns-in-None
returns-in-None c = no_size c.args.sizes.now c.args.rule.now.pattern c.requires.sizes c.requires.names c.in-None.ensures
