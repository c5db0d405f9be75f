use Rattle.std.proofs.Common.{sym, subst}
use Rattle.sel_c.specs.Openings.{IsUnopened}
use Rattle.sel_c.proofs.Telling.{normal_refused}
use Rattle.sel_c.proofs.opening.judged.Goals as goal

pub returns-in-Err-of-clause-refused : goal.returns-in-Err-of-clause-refused
returns-in-Err-of-clause-refused c = subst (IsUnopened c.args.text.now) (sym c.why_not-in-Err-of.ensures)
    (normal_refused c.args.text.now c.in-Ok.grammar c.in-Err-of.refusal c.in-Ok.ensures.ok c.in-Err-of.ensures.fault)
