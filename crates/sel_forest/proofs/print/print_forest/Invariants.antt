use Rattle.std.proofs.Common.{take}
use Rattle.sel_forest.specs.Printing.{HasPrinted}
use Rattle.sel_forest.proofs.print.print_forest.Given as goal

abbrev pub invariant-trees : goal.invariant-trees
invariant-trees l = HasPrinted l.grammar l.printer (take l.tree-index l.forest.trees)
