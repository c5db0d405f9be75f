use Rattle.std.proofs.Common.{refl, sym, subst, ◌∷◌}
use Rattle.sel_check.specs.LineReading.{IsRefusedBehind}
use Rattle.sel_check.proofs.Cutting.{whole_lacks}
use Rattle.sel_check.proofs.Reading.{no_end}
use Rattle.sel_check.proofs.lines.Lines.take.Goals as goal

pub returns-in_default-clause-fault : goal.returns-in_default-clause-fault
returns-in_default-clause-fault c = λ w others.
    subst (IsRefusedBehind c.args.self.now (w ∷ others)) (sym c.wrong.ensures)
    (refl, no_end c.args.self.now w others _ (whole_lacks 10 _ _ _ c.first_part-cut.ensures.lacks c.first_part-cut.ensures.whole c.in_default.is) refl)
