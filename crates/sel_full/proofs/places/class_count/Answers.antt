use Rattle.sel_full.proofs.Counts.{count_fits, count_is}
use Rattle.sel_full.proofs.places.class_count.Goals as goal

pub overflow_sub-result : goal.overflow_sub-result
overflow_sub-result c = count_fits c.args.classes.now c.first_class-first.result c.last_class-last.result c.first_class-first.ensures c.last_class-last.ensures.is

pub returns-clause-is : goal.returns-clause-is
returns-clause-is c = count_is c.args.classes.now c.first_class-first.result c.last_class-last.result c.first_class-first.ensures c.last_class-last.ensures.is
