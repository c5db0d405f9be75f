use Rattle.std.proofs.Common.{refl, sym, subst, ◌∷◌}
use Rattle.sel_check.specs.CertificateTexts.{cover_line}
use Rattle.sel_check.specs.LineReading.{IsRefusedBehind}
use Rattle.sel_check.specs.WantedLines.{Rules, AreRules}
use Rattle.sel_check.proofs.Items.{unread}
use Rattle.sel_check.proofs.Reading.{wrong_line, rules_only}
use Rattle.sel_check.proofs.lines.Lines.rules.Goals as goal

pub returns-in-Err-clause-fault : goal.returns-in-Err-clause-fault
returns-in-Err-clause-fault c = λ others. c.in-Err.ensures.fault Rules others

pub returns-in-None-clause-fault : goal.returns-in-None-clause-fault
returns-in-None-clause-fault c = λ others.
    subst (IsRefusedBehind c.args.self.now (Rules ∷ others)) (sym c.wrong.ensures) (
      refl,
      wrong_line c.args.self.now c.take.new.self Rules others c.in-Ok.last.now rules_only c.in-Ok.ensures.line
          (λ (rules, are, e). unread AreRules cover_line c.in-Ok.last.now c.in_ok-rules.field-0 c.in_ok-rules.ensures.read c.in-None.is rules are e),
    )
