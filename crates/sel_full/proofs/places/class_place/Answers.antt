use Rattle.sel_full.proofs.Counts.{place_fits, place_is}
use Rattle.sel_full.proofs.places.class_place.Goals as goal

pub overflow_sub-result : goal.overflow_sub-result
overflow_sub-result c = place_fits c.args.classes.now c.first_class-first.result c.args.class c.first_class-first.ensures c.requires c.if-class-eq0.false

pub returns : goal.returns
returns c = place_is c.args.classes.now c.first_class-first.result c.args.class c.first_class-first.ensures c.requires c.if-class-eq0.false
