use Rattle.sel_check.proofs.Texts.{TextSoFar}
use Rattle.sel_check.proofs.forest_text.certify_trees.Given as goal

abbrev pub invariant-trees : goal.invariant-trees
invariant-trees l = TextSoFar l.grammar l.number l.trees l.tree-index l.text.items l.covered l.next
