use Rattle.sel_base.proofs.DigitValues.{value_from}
use Rattle.sel_base.proofs.digits.number.Goals as goal

pub returns-then-value-limit : goal.returns-then-value-limit
returns-then-value-limit c = value_from c.args.limit c.loop-digit.value c.loop-digit.digit-index c.args.digits.now c.loop-digit-test.true c.loop-digit.invariant.value c.loop-digit.invariant.digits c.if-value-limit.true
