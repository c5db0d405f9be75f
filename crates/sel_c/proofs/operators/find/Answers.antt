use Rattle.std.proofs.Common.{arith}
use Rattle.std.proofs.lemmas.Option.{slice_get_read}
use Rattle.std.proofs.Common.{refl, length}
use Rattle.sel_c.proofs.Naming.{none_yet, none_at_all}
use Rattle.sel_c.proofs.operators.find.Goals as goal

pub operators-preserved : goal.operators-preserved
operators-preserved c = (grind (arith, c.operators-test.true), none_yet c.args.operators.now c.args.name.now c.operators.number (c.index-operators-number.result) (slice_get_read c.args.operators.now (length c.args.operators.now) c.operators.number c.index-operators-number.result refl c.operators-test.true c.index-operators-number.is) (c.has_name.ensures.no c.if-has_name.false) c.operators.invariant.1)

pub returns-clause-found : goal.returns-clause-found
returns-clause-found c number has = none_at_all c.args.operators.now c.args.name.now c.operators.number (grind (arith, c.operators-test.false)) c.operators.invariant.1 number has
