use Rattle.std.proofs.Common.{sym, subst}
use Rattle.sel_rows.specs.Parts.{AreFresh}
use Rattle.sel_rows.specs.Tables.{ArePartsOf}
use Rattle.sel_rows_threads.proofs.crew.label_and_close.Goals as goal

pub label_at_once-requires-clause-parts : goal.label_at_once-requires-clause-parts
label_at_once-requires-clause-parts g c = λ κs lives. subst (ArePartsOf c.in_ok-rows.rows) (sym c.into_vec-parts.ensures) c.in_ok-rows.ensures.of

pub label_at_once-requires-clause-fresh : goal.label_at_once-requires-clause-fresh
label_at_once-requires-clause-fresh g c = λ κs lives. subst AreFresh (sym c.into_vec-parts.ensures) c.in_ok-rows.ensures.fresh
