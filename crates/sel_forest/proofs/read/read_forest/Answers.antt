use Rattle.std.proofs.Common.{sym, subst}
use Rattle.sel_forest.specs.ForestText.{SpellsForest}
use Rattle.sel_forest.specs.Valid.{IsValidForest}
use Rattle.sel_forest.proofs.ForestLoop.{spelled_valid}
use Rattle.sel_forest.proofs.read.read_forest.Goals as goal

pub read_trees-requires-clause-none : goal.read_trees-requires-clause-none
read_trees-requires-clause-none c = c.new-builder.ensures c.args.grammar.now

pub returns-clause-ok : goal.returns-clause-ok
returns-clause-ok c =
    let (trees, spelled, built) = c.in_ok-read_trees.ensures.ok in
    subst (λ trees. SpellsForest c.args.grammar.now c.args.bytes.now (record { trees = trees })) (sym (c.into_trees.ensures c.args.grammar.now trees built)) spelled

pub returns-clause-valid : goal.returns-clause-valid
returns-clause-valid c =
    let (trees, spelled, built) = c.in_ok-read_trees.ensures.ok in
    subst (λ trees. IsValidForest c.args.grammar.now (record { trees = trees })) (sym (c.into_trees.ensures c.args.grammar.now trees built))
    (spelled_valid c.args.grammar.now c.args.bytes.now (record { trees = trees }) spelled)
