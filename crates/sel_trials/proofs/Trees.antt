-- The trees of a valid forest are trees.
use Rattle.std.proofs.Common.{◌≡◌, ℕ, Some, sym, slice_get}
use Rattle.sel_grammar.specs.declared.grammar.Grammar.{Grammar}
use Rattle.sel_forest.specs.declared.forest.Forest.{Forest}
use Rattle.sel_forest.specs.declared.forest.Tree.{Tree}
use Rattle.sel_forest.specs.Postorder.{IsTree}
use Rattle.sel_forest.specs.Valid.{IsValidForest}

-- the tree at this place of a valid forest is a tree
pub tree_at : (g : Grammar) (forest : Forest) (tree : Tree) (k : ℕ) → IsValidForest g forest → Some tree ≡ slice_get forest.trees k → IsTree tree
tree_at g forest tree k valid e = let v = valid.trees k tree (sym e) in (v.plain, v.postorder, v.small)
