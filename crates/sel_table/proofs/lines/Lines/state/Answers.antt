use Rattle.std.proofs.Common.{sym, subst}
use Rattle.sel_full.specs.Forms.{IsFormState}
use Rattle.sel_full.specs.TableTexts.{state_text}
use Rattle.sel_table.specs.LineReading.{IsEarlyEnd}
use Rattle.sel_table.proofs.Forming.{state_line}
use Rattle.sel_table.proofs.Taking.{uncut_end, wrong_end, unread}
use Rattle.sel_table.proofs.lines.Lines.state.Goals as goal

pub returns-in-Err-clause-fault : goal.returns-in-Err-clause-fault
returns-in-Err-clause-fault c = uncut_end (IsFormState c.args.normal.now) state_text c.args.self.now c.in-Err.refusal c.in-Err.ensures.fault

pub returns-in-None-clause-fault : goal.returns-in-None-clause-fault
returns-in-None-clause-fault c =
    subst (IsEarlyEnd (IsFormState c.args.normal.now) state_text c.args.self.now 1) (sym c.wrong.ensures)
    (wrong_end (IsFormState c.args.normal.now) state_text c.args.self.now c.take.new.self c.in-Ok.line.now (state_line c.args.normal.now c.is_standing.ensures) c.in-Ok.ensures.line
    (unread (IsFormState c.args.normal.now) state_text c.in-Ok.line.now c.in_ok-items.field-0 c.in_ok-items.ensures c.in-None.is))
