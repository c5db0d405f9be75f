use Rattle.std.proofs.Common.{refl, sym, ◌∙◌, subst, ◌∷◌, true≢false, arith}
use Rattle.sel_check.specs.LineReading.{IsRefusedBehind}
use Rattle.sel_check.specs.WantedLines.{Title}
use Rattle.sel_check.proofs.Reading.{wrong_line, title_only}
use Rattle.sel_check.proofs.lines.Lines.title.Goals as goal

pub returns-in-Err-clause-fault : goal.returns-in-Err-clause-fault
returns-in-Err-clause-fault c = λ others. c.in-Err.ensures.fault (Title c.args.tree) others

pub returns-else-is_title-clause-fault : goal.returns-else-is_title-clause-fault
returns-else-is_title-clause-fault c = λ others.
    subst (IsRefusedBehind c.args.self.now (Title c.args.tree ∷ others)) (sym c.wrong.ensures) (
      refl,
      wrong_line c.args.self.now c.take.new.self (Title c.args.tree) others c.in-Ok.line.now (title_only c.args.tree (let small = c.ranges.tree.fits in omega (arith, small))) c.in-Ok.ensures.line
          (λ h. absurd (true≢false (sym (c.is_title.ensures.1 h) ∙ c.if-is_title.false))),
    )
