use Rattle.std.proofs.Common.{sym, subst, arith}
use Rattle.sel_table.specs.LineReading.{IsHead, first_line, IsEarlyEnd}
use Rattle.sel_table.proofs.Spelling.{head_lacks}
use Rattle.sel_table.proofs.Taking.{uncut_end, wrong_end}
use Rattle.sel_table.proofs.lines.Lines.head.Goals as goal

pub returns-in-Err-clause-fault : goal.returns-in-Err-clause-fault
returns-in-Err-clause-fault c = uncut_end (IsHead c.args.normal.now) first_line c.args.self.now c.in-Err.refusal c.in-Err.ensures.fault

pub returns-in-None-clause-fault : goal.returns-in-None-clause-fault
returns-in-None-clause-fault c =
    subst (IsEarlyEnd (IsHead c.args.normal.now) first_line c.args.self.now 1) (sym c.wrong.ensures)
    (wrong_end (IsHead c.args.normal.now) first_line c.args.self.now c.take.new.self c.in-Ok.line.now (λ h is. head_lacks h.states (let few = is.few in omega (arith, few))) c.in-Ok.ensures.line c.in-None.ensures)
