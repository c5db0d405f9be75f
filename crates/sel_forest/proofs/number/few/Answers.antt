use Rattle.std.proofs.Common.{arith}
use Rattle.sel_forest.proofs.Numerals.{few_more}
use Rattle.sel_forest.proofs.number.few.Goals as goal

pub overflow_mul-value : goal.overflow_mul-value
overflow_mul-value c =
    let small = few_more c.digits.value c.digits.digit-index c.args.digits.now c.requires.digits c.requires.few c.digits-test.true c.digits.invariant.value c.digits.invariant.digits in
    omega (arith, small)

pub overflow_add-value : goal.overflow_add-value
overflow_add-value c =
    let small = few_more c.digits.value c.digits.digit-index c.args.digits.now c.requires.digits c.requires.few c.digits-test.true c.digits.invariant.value c.digits.invariant.digits in
    omega (arith, small)
