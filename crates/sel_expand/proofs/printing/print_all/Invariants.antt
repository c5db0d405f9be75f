use Rattle.std.proofs.Common.{◌≡◌, List, take}
use Rattle.sel_grammar.specs.Expansions.{Text}
use Rattle.sel_expand.specs.Sheets.{shown}
use Rattle.sel_expand.specs.Values.{AreTexts, lines_of}
use Rattle.sel_expand.specs.Printing.{SpansHold}
use Rattle.sel_expand.proofs.printing.print_all.Given as goal

abbrev pub invariant-reductions : goal.invariant-reductions
invariant-reductions g l = (texts : List Text) → AreTexts l.grammar l.nodes l.reductions texts
    → (g.S.Sheet.told l.out ≡ shown g.S.Sheet.apart (lines_of l.grammar l.nodes texts (take l.at l.reductions))) × SpansHold g.S.Sheet.apart texts l.spans.items (g.S.Sheet.told l.out)
