use Rattle.sel_table.proofs.Pairs.{item_first, item_no_rest, item_tail}
use Rattle.sel_table.proofs.entries.item.Goals as goal

pub returns-in_default : goal.returns-in_default
returns-in_default c = item_first c.args.bytes.now _ _ c.args.rules c.first_part-cut.ensures.lacks c.first_part-cut.ensures.whole c.in_default.ensures

pub returns-in_default-rest : goal.returns-in_default-rest
returns-in_default-rest c = item_no_rest c.args.bytes.now _ _ c.args.rules c.first_part-cut.ensures.lacks c.first_part-cut.ensures.whole c.in_default-rest.is

pub returns-in_default-read_tail : goal.returns-in_default-read_tail
returns-in_default-read_tail c = item_tail c.args.bytes.now _ _ c.args.rules c.first_part-cut.ensures.lacks c.first_part-cut.ensures.whole c.in-Some-rest.rest c.in-Some-rest.is c.in_default-read_tail.ensures
