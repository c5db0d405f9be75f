use Rattle.std.proofs.Common.{sym, subst}
use Rattle.sel_forest.specs.Postorder.{IsTree}
use Rattle.sel_check.proofs.Texts.{text_more}
use Rattle.sel_check.proofs.forest_text.certify_trees.Goals as goal

pub certify-requires-clause-tree : goal.certify-requires-clause-tree
certify-requires-clause-tree c = subst IsTree (sym c.tree-item.is) (c.requires.trees c.trees.tree-index c.tree-item.result c.trees-test.true)

pub trees-preserved : goal.trees-preserved
trees-preserved c =
    let made = c.in_ok-certificate.ensures in
    text_more c.args.grammar.now c.args.number c.args.trees.now c.trees.tree-index c.trees.text.items c.put_certificate.new.text.items c.trees.covered c.is_covered_too-both.result c.trees.next c.tree-item.result
    c.in_ok-certificate.certificate c.trees.invariant c.trees-test.true c.tree-item.is (record { places = made.places; costs = made.costs; rules = made.rules; printable = made.printable })
    c.in_ok-put_certificate.ensures c.is_covered_too-both.ensures
