-- Each turn prints a tree, and the whole text spells the forest.
use Rattle.std.proofs.Common.{◌≡◌, ◌<◌, ◌≤◌, length, slice_index_or, sym, subst}
use Rattle.std.proofs.lemmas.List.{take_all}
use Rattle.sel_forest.specs.Printing.{HasPrinted}
use Rattle.sel_forest.proofs.Reprinting.{tree_at, taken_next, printed_spells}
use Rattle.sel_forest.proofs.print.print_forest.Goals as goal

pub trees-init : goal.trees-init
trees-init c = c.new-printer.ensures c.args.grammar.now

pub print-requires-clause-tree : goal.print-requires-clause-tree
print-requires-clause-tree c =
    let e = c.as_slice-tree-items.ensures in
    let lt = subst (λ x. c.trees.tree-index < length x) e c.trees-test.true in
    let is = subst (λ x. c.tree-item.result ≡ slice_index_or x c.trees.tree-index c.tree-item.result) e c.tree-item.is in
    let valid = tree_at c.args.grammar.now c.args.forest.now c.trees.tree-index c.tree-item.result c.requires.valid lt is in
    (valid.plain, valid.postorder, valid.small)

pub trees-preserved : goal.trees-preserved
trees-preserved c =
    let e = c.as_slice-tree-items.ensures in
    let lt = subst (λ x. c.trees.tree-index < length x) e c.trees-test.true in
    let is = subst (λ x. c.tree-item.result ≡ slice_index_or x c.trees.tree-index c.tree-item.result) e c.tree-item.is in
    subst (HasPrinted c.args.grammar.now c.print.new.self) (sym (taken_next c.args.forest.now c.trees.tree-index c.tree-item.result lt is))
    (c.in_ok-print.ensures _ c.trees.invariant)

pub returns-clause-text : goal.returns-clause-text
returns-clause-text c =
    let end = subst (λ x. length x ≤ c.trees.tree-index) c.as_slice-tree-items.ensures c.trees-test.false in
    c.into_text.ensures c.args.grammar.now c.args.forest.now.trees (subst (HasPrinted c.args.grammar.now c.trees.printer) (take_all c.trees.tree-index c.args.forest.now.trees end) c.trees.invariant)

pub returns-clause-again : goal.returns-clause-again
returns-clause-again c = λ names.
    let end = subst (λ x. length x ≤ c.trees.tree-index) c.as_slice-tree-items.ensures c.trees-test.false in
    printed_spells c.args.grammar.now names c.args.forest.now c.into_text.result c.requires.valid
    (c.into_text.ensures c.args.grammar.now c.args.forest.now.trees (subst (HasPrinted c.args.grammar.now c.trees.printer) (take_all c.trees.tree-index c.args.forest.now.trees end) c.trees.invariant))
