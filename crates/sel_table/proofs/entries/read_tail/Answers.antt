use Rattle.sel_table.proofs.Pairs.{tail_second, tail_no_rest, tail_rule}
use Rattle.sel_table.proofs.entries.read_tail.Goals as goal

pub returns-in_default : goal.returns-in_default
returns-in_default c = tail_second c.args.bytes.now _ _ c.args.rules c.first_part-cut.ensures.lacks c.first_part-cut.ensures.whole c.in_default.ensures

pub returns-in_default-rest : goal.returns-in_default-rest
returns-in_default-rest c = tail_no_rest c.args.bytes.now _ _ c.args.rules c.first_part-cut.ensures.lacks c.first_part-cut.ensures.whole c.in_default-rest.is

pub returns-in_default-rule_number : goal.returns-in_default-rule_number
returns-in_default-rule_number c = tail_rule c.args.bytes.now _ _ c.args.rules c.first_part-cut.ensures.lacks c.first_part-cut.ensures.whole c.in-Some-rest.rest c.in-Some-rest.is c.in_default-rule_number.ensures
