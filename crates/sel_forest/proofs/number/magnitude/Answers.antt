use Rattle.std.proofs.Common.{arith}
use Rattle.sel_forest.proofs.Numerals.{few_value}
use Rattle.sel_forest.proofs.number.magnitude.Goals as goal

pub returns-then-digits-le-FEW : goal.returns-then-digits-le-FEW
returns-then-digits-le-FEW c =
    let small = few_value c.args.digits.now c.requires.digits c.if-digits-le-FEW.true in
    (c.few.ensures, omega (arith, small, c.few.ensures, c.requires.limit))
