use Rattle.sel_range.proofs.Deciding.{few_sorted}
use Rattle.sel_range.proofs.classes.Classes.of.Goals as goal

pub spans_of-requires-clause-few : goal.spans_of-requires-clause-few
spans_of-requires-clause-few c = rw c.deref.ensures.value (few_sorted _ _ c.requires.few c.in_ok-cuts.ensures)
