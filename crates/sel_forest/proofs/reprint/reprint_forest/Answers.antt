use Rattle.std.proofs.Common.{true, sym, subst}
use Rattle.sel_forest.specs.Printed.{IsPrinted}
use Rattle.sel_forest.proofs.ForestLoop.{spelled_valid}
use Rattle.sel_forest.proofs.OneForest.{forest_one}
use Rattle.sel_forest.proofs.Reprinting.{printed_spells, reprinted_first, reprinted_printed}
use Rattle.sel_forest.proofs.reprint.reprint_forest.Goals as goal

pub read_trees-requires-clause-none : goal.read_trees-requires-clause-none
read_trees-requires-clause-none c = reprinted_first c.args.grammar.now c.new.result.items true c.new.ensures.items

pub returns-clause-ok : goal.returns-clause-ok
returns-clause-ok c =
    let (trees, spelled, took) = c.in_ok-read_trees.ensures.ok in
    record {
      forest = record { trees = trees };
      spelled = spelled;
      printed = subst (IsPrinted c.args.grammar.now (record { trees = trees })) (sym c.from_vec.ensures) (reprinted_printed c.args.grammar.now c.read_trees.new.taker.text.items c.read_trees.new.taker.in_print trees took);
    }

pub returns-clause-again : goal.returns-clause-again
returns-clause-again c = λ names forest spelled.
    let g = c.args.grammar.now in
    let (trees, read, took) = c.in_ok-read_trees.ensures.ok in
    let same = forest_one g c.args.bytes.now (record { trees = trees }) forest read spelled in
    let printed = subst (IsPrinted g (record { trees = trees })) (sym c.from_vec.ensures) (reprinted_printed g c.read_trees.new.taker.text.items c.read_trees.new.taker.in_print trees took) in
    printed_spells g names forest c.from_vec.result (spelled_valid g c.args.bytes.now forest spelled) (subst (λ f. IsPrinted g f c.from_vec.result) same printed)
