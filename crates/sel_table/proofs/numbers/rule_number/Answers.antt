use Rattle.std.proofs.Common.{arith}
use Rattle.sel_table.proofs.Signs.{no_rule}
use Rattle.sel_table.proofs.numbers.rule_number.Goals as goal

pub returns-then-rule-eq0 : goal.returns-then-rule-eq0
returns-then-rule-eq0 c = no_rule c.args.bytes.now c.in-Some.rule c.args.rules c.if-rule-eq0.true (let few = c.ranges.rules.fits in omega (arith, few)) c.in-Some.ensures.1
