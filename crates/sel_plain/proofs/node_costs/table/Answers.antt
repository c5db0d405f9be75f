-- The rows tell the best costs.
use Rattle.std.proofs.Common.{arith, ◌≡◌, ◌+◌, ◌++◌, ◌∷◌, [], length, sym, ap, ◌∙◌, subst, Option, List}
use Rattle.std.proofs.lemmas.List.{length_push}
use Rattle.sel_grammar.specs.Costs.{Cost}
use Rattle.sel_forest.specs.Limits.{most_nodes}
use Rattle.sel_forest.specs.Postorder.{postorder}
use Rattle.sel_forest.proofs.Roots.{SizesBelow-spelled}
use Rattle.sel_plain.specs.BestRows.{AreBestRows}
use Rattle.sel_plain.proofs.NodeCosts.{AreRows, rows_more, best_costs, small_costs}
use Rattle.sel_plain.proofs.node_costs.table.Goals as goal

pub filled-requires-clause-sizes : goal.filled-requires-clause-sizes
filled-requires-clause-sizes c =
    let (t, postorder, small) = c.requires.tree in
    SizesBelow-spelled c.as_slice-nodes.result.now t (most_nodes + 1) (c.as_slice-nodes.ensures ∙ postorder) (omega arith)

pub loop-at-preserved : goal.loop-at-preserved
loop-at-preserved c =
    let i = c.loop-at.invariant in
    let row : List (Option Cost) = c.in_ok-row_costs.field-0 in
    let pushed : c.push.new.self ≡ c.loop-at.costs ++ row ∷ [] = c.in_ok-push.ensures.ok in
    record {
      long = ap length pushed ∙ length_push c.loop-at.costs row ∙ ap (λ n. n + 1) i.long;
      rows = subst (λ x. AreRows c.in_ok-table.table.rows c.len-width.result x) (sym pushed)
          (rows_more c.in_ok-table.table.rows c.len-width.result c.loop-at.costs row c.loop-at.at i.long i.rows
          (record { long = c.in_ok-row_costs.ensures.long; costs = c.in_ok-row_costs.ensures.costs }));
    }

pub returns-clause-best : goal.returns-clause-best
returns-clause-best c =
    let (t, postorder, small) = c.requires.tree in
    let i = c.loop-at.invariant in
    let same = c.as_slice-nodes.ensures in
    best_costs c.in_ok-table.table.rows c.len-width.result c.loop-at.costs i.rows c.args.grammar.now c.args.tree.now t postorder c.requires.lawful.within c.len-width.ensures
    (let l = ap length same in let e = i.long in omega arith)
    (subst (λ nodes. AreBestRows c.args.grammar.now nodes c.in_ok-table.table.rows (length nodes)) same c.in_ok-table.ensures)

pub returns-clause-small : goal.returns-clause-small
returns-clause-small c =
    let (t, postorder, small) = c.requires.tree in
    let i = c.loop-at.invariant in
    let same = c.as_slice-nodes.ensures in
    small_costs c.in_ok-table.table.rows c.len-width.result c.loop-at.costs i.rows c.args.grammar.now c.args.tree.now t postorder c.requires.lawful.within c.len-width.ensures
    (let l = ap length same in let e = i.long in omega arith)
    (subst (λ nodes. AreBestRows c.args.grammar.now nodes c.in_ok-table.table.rows (length nodes)) same c.in_ok-table.ensures) small
