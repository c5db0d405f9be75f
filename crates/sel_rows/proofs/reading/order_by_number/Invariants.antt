use Rattle.sel_rows.specs.Numbered.{AreByNumber}
use Rattle.sel_rows.proofs.reading.order_by_number.Given as goal

abbrev pub invariant-loop-place : goal.invariant-loop-place
invariant-loop-place l = AreByNumber l.words l.states l.place l.found.items
