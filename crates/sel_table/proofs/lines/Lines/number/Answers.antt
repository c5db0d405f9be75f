use Rattle.std.proofs.Common.{sym, subst}
use Rattle.std.specs.Fmt.{decimal}
use Rattle.sel_table.specs.LineReading.{IsNumber, IsEarlyEnd}
use Rattle.sel_table.proofs.Spelling.{number_lacks}
use Rattle.sel_table.proofs.Taking.{uncut_end, wrong_end}
use Rattle.sel_table.proofs.lines.Lines.number.Goals as goal

pub returns-in-Err-clause-fault : goal.returns-in-Err-clause-fault
returns-in-Err-clause-fault c = uncut_end IsNumber decimal c.args.self.now c.in-Err.refusal c.in-Err.ensures.fault

pub returns-in-None-clause-fault : goal.returns-in-None-clause-fault
returns-in-None-clause-fault c =
    subst (IsEarlyEnd IsNumber decimal c.args.self.now 1) (sym c.wrong.ensures) (wrong_end IsNumber decimal c.args.self.now c.take.new.self c.in-Ok.line.now number_lacks c.in-Ok.ensures.line c.in-None.ensures)
