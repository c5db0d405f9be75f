use Rattle.sel_table.proofs.Signs.{nothing_negative, is_negative}
use Rattle.sel_table.proofs.numbers.negative.Goals as goal

pub returns-then-amount-eq0 : goal.returns-then-amount-eq0
returns-then-amount-eq0 c = nothing_negative c.args.digits.now c.in-Some.amount c.if-amount-eq0.true c.in-Some.ensures.1

pub returns-else-amount-eq0 : goal.returns-else-amount-eq0
returns-else-amount-eq0 c = is_negative c.args.digits.now c.in-Some.amount c.if-amount-eq0.false c.in-Some.ensures.0 c.in-Some.ensures.1
