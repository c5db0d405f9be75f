use Rattle.sel_full.proofs.Occurring.{class_occurs}
use Rattle.sel_full.proofs.places.class_at.Goals as goal

pub returns-clause-occurs : goal.returns-clause-occurs
returns-clause-occurs c = class_occurs c.args.classes.now c.args.place _ _ c.occurs.ensures.value c.occurs.ensures.rule c.class_by_place-class.ensures
