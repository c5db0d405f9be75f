use Rattle.std.proofs.Common.{refl, sym, subst, ◌∷◌}
use Rattle.sel_check.specs.CertificateTexts.{row_line}
use Rattle.sel_check.specs.LineReading.{IsRefusedBehind}
use Rattle.sel_check.specs.WantedLines.{Row, IsRow}
use Rattle.sel_check.proofs.Items.{unread}
use Rattle.sel_check.proofs.Reading.{wrong_line, row_only}
use Rattle.sel_check.proofs.lines.Lines.row.Goals as goal

pub returns-in-Err-clause-fault : goal.returns-in-Err-clause-fault
returns-in-Err-clause-fault c = λ others. c.in-Err.ensures.fault (Row c.args.width) others

pub returns-in-None-clause-fault : goal.returns-in-None-clause-fault
returns-in-None-clause-fault c = λ others.
    subst (IsRefusedBehind c.args.self.now (Row c.args.width ∷ others)) (sym c.wrong.ensures) (
      refl,
      wrong_line c.args.self.now c.take.new.self (Row c.args.width) others c.in-Ok.line.now (row_only c.args.width) c.in-Ok.ensures.line
          (λ (row, is, e). unread (IsRow c.args.width) row_line c.in-Ok.line.now c.in_ok-row.field-0 c.in_ok-row.ensures c.in-None.is row is e),
    )
