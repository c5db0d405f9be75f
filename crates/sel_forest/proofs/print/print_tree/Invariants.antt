use Rattle.std.proofs.Common.{◌++◌, reverse}
use Rattle.sel_grammar.specs.PlainTrees.{PlainTree}
use Rattle.sel_forest.specs.Postorder.{IsPostorderOf}
use Rattle.sel_forest.specs.Printed.{tree_text}
use Rattle.sel_forest.proofs.Leading.{Leads, weights}
use Rattle.sel_forest.proofs.print.print_tree.Given as goal

abbrev pub invariant-tasks : goal.invariant-tasks
invariant-tasks l = (t : PlainTree) → IsPostorderOf l.tree t → Leads l.grammar l.nodes (l.fn.text.items ++ tree_text l.grammar t) l.text.items (reverse l.tasks.items)

abbrev pub decreases-tasks : goal.decreases-tasks
decreases-tasks l = weights l.tasks.items
