use Rattle.std.proofs.Common.{refl, sym, subst}
use Rattle.sel_table.specs.LineReading.{IsUncut}
use Rattle.sel_table.proofs.Cutting.{whole_lacks}
use Rattle.sel_table.proofs.lines.Lines.take.Goals as goal

pub returns-in_default-clause-fault : goal.returns-in_default-clause-fault
returns-in_default-clause-fault c =
    subst (IsUncut c.args.self.now) (sym c.wrong.ensures) (whole_lacks 10 _ _ _ c.first_part-cut.ensures.lacks c.first_part-cut.ensures.whole c.in_default.is, refl)
