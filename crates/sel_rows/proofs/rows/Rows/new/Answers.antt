use Rattle.std.proofs.Common.{sym, subst}
use Rattle.sel_rows.specs.Parts.{AreFresh}
use Rattle.sel_rows.specs.Tables.{ArePartsOf}
use Rattle.sel_rows.proofs.rows.Rows.new.Goals as goal

pub returns-clause-of : goal.returns-clause-of
returns-clause-of c = subst (ArePartsOf record { words = c.in_ok-words.words }) (sym c.from_vec.ensures) c.in_ok-parts.ensures.of

pub returns-clause-fresh : goal.returns-clause-fresh
returns-clause-fresh c = subst AreFresh (sym c.from_vec.ensures) c.in_ok-parts.ensures.fresh
