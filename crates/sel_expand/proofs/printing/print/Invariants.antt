use Rattle.std.proofs.Common.{List, ◌++◌, reverse}
use Rattle.sel_grammar.specs.Expansions.{Text}
use Rattle.sel_expand.specs.Sheets.{shown}
use Rattle.sel_expand.specs.Values.{AreTexts}
use Rattle.sel_expand.specs.Printing.{SpansHold, Leads, from, work}
use Rattle.sel_expand.proofs.printing.print.Given as goal

abbrev pub invariant-frames : goal.invariant-frames
invariant-frames g l = (texts : List Text) → AreTexts l.grammar l.nodes l.reductions texts → SpansHold g.S.Sheet.apart texts l.initial.spans.items (g.S.Sheet.told l.initial.out)
    → SpansHold g.S.Sheet.apart texts l.spans.items (g.S.Sheet.told l.out)
    × Leads g.S.Sheet.apart l.grammar l.nodes l.reductions texts (g.S.Sheet.told l.initial.out ++ shown g.S.Sheet.apart (from l.grammar l.nodes l.reductions texts l.first 0)) (g.S.Sheet.told l.out) (reverse l.frames.items)

abbrev pub decreases-frames : goal.decreases-frames
decreases-frames g l = work l.grammar l.reductions l.frames.items
