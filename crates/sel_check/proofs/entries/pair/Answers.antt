use Rattle.sel_check.proofs.Pairs.{pair_first, pair_no_rest, pair_second}
use Rattle.sel_check.proofs.entries.pair.Goals as goal

pub returns-in_default : goal.returns-in_default
returns-in_default c = pair_first c.args.bytes.now _ _ c.first_part-cut.ensures.lacks c.first_part-cut.ensures.whole c.in_default.ensures

pub returns-in_default-rest : goal.returns-in_default-rest
returns-in_default-rest c = pair_no_rest c.args.bytes.now _ _ c.first_part-cut.ensures.lacks c.first_part-cut.ensures.whole c.in_default-rest.is

pub returns-in_default-number : goal.returns-in_default-number
returns-in_default-number c = pair_second c.args.bytes.now _ _ c.first_part-cut.ensures.lacks c.first_part-cut.ensures.whole c.in-Some-rest.rest c.in-Some-rest.is c.in_default-number.ensures
