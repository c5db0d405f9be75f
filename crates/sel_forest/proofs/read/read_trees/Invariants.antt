use Rattle.std.proofs.Common.{◌≡◌, [], List, length}
use Rattle.sel_forest.specs.declared.forest.Tree.{Tree}
use Rattle.sel_forest.proofs.ForestLoop.{LinesRead}
use Rattle.sel_forest.proofs.read.read_trees.Given as goal

abbrev pub invariant-lines : goal.invariant-lines
invariant-lines g l = (taken : List Tree) × LinesRead l.grammar l.bytes l.rest taken l.number × g.T.Taker.took l.taker l.grammar taken [] × (l.trees ≡ length taken)

abbrev pub decreases-lines : goal.decreases-lines
decreases-lines g l = length l.rest
