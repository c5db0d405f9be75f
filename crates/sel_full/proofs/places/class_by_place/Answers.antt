use Rattle.sel_full.proofs.Counts.{place_within, class_behind}
use Rattle.sel_full.proofs.places.class_by_place.Goals as goal

pub behind_first-requires-clause-within : goal.behind_first-requires-clause-within
behind_first-requires-clause-within c =
    place_within c.args.classes.now c.first_class-first.result c.last_class-last.result c.first_class-first.ensures c.last_class-last.ensures.is c.args.place c.requires c.if-place-eq0.false

pub returns-else-place-eq0 : goal.returns-else-place-eq0
returns-else-place-eq0 c =
    class_behind c.args.classes.now c.first_class-first.result c.last_class-last.result c.first_class-first.ensures c.last_class-last.ensures.is c.args.place _ c.requires c.if-place-eq0.false c.behind_first.ensures
