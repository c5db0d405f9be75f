use Rattle.std.proofs.Common.{ℕ, List, length}
use Rattle.std.specs.List.{AllByRecursion}
use Rattle.sel_grammar_text.specs.Places.{IsMark}
use Rattle.sel_grammar_text.proofs.mark.mark_before.Given as goal

abbrev pub invariant-marks : goal.invariant-marks
invariant-marks l = (bytes : List ℕ) → AllByRecursion (IsMark bytes) l.marks → AllByRecursion (IsMark bytes) l.rest

abbrev pub decreases-marks : goal.decreases-marks
decreases-marks l = length l.rest
