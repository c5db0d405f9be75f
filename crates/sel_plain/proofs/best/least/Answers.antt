-- The root's entry tells the cost, and the list is written from it.
use Rattle.std.proofs.Common.{arith, sym, ◌∙◌, subst, ◌+◌}
use Rattle.sel_forest.specs.Limits.{most_nodes}
use Rattle.sel_forest.specs.Covers.{IsBestCover}
use Rattle.sel_forest.proofs.Roots.{SizesBelow-spelled, some_node}
use Rattle.sel_plain.proofs.Answer.{root_none, root_partly, root_best}
use Rattle.sel_plain.proofs.best.least.Goals as goal

pub filled-requires-clause-sizes : goal.filled-requires-clause-sizes
filled-requires-clause-sizes c =
    let (t, postorder, small) = c.requires.tree in
    SizesBelow-spelled c.as_slice-nodes.result.now t (most_nodes + 1) (c.as_slice-nodes.ensures ∙ postorder) (omega arith)

pub overflow_sub-goal : goal.overflow_sub-goal
overflow_sub-goal c = let (t, postorder, small) = c.requires.tree in some_node c.as_slice-nodes.result.now t (c.as_slice-nodes.ensures ∙ postorder)

pub returns-in-None : goal.returns-in-None
returns-in-None c = λ t postorder.
    root_none c.args.grammar.now c.as_slice-nodes.result.now c.in_ok-table.table.rows t (c.as_slice-nodes.ensures ∙ postorder)
    c.in_ok-table.ensures c.in-None.ensures

pub written-requires-clause-best : goal.written-requires-clause-best
written-requires-clause-best c =
    let (t, postorder, small) = c.requires.tree in
    root_partly c.args.grammar.now c.as_slice-nodes.result.now c.in_ok-table.table.rows t (c.as_slice-nodes.ensures ∙ postorder)
    c.in_ok-table.ensures c.in-Some.entry c.in-Some.ensures

pub returns : goal.returns
returns c = λ t postorder.
    let made = root_best c.args.grammar.now c.as_slice-nodes.result.now c.in_ok-table.table.rows t (c.as_slice-nodes.ensures ∙ postorder)
    c.in_ok-table.ensures
    c.in-Some.entry c.in_ok-rules-in-Some.rules.items c.in-Some.ensures c.in_ok-rules-in-Some.ensures in
    subst (λ rules. IsBestCover c.args.grammar.now t (record { cost = c.in-Some.entry.cost; rules = rules })) (sym c.from_vec.ensures) made
