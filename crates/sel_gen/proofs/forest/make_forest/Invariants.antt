use Rattle.std.proofs.Common.{◌≡◌, ◌+◌, ◌≤◌, ◌++◌, List, length}
use Rattle.sel_forest.specs.declared.forest.Tree.{Tree}
use Rattle.sel_gen.specs.Made.{IsMadeForest}
use Rattle.sel_gen.specs.Maker.{AreToCome}
use Rattle.sel_gen.proofs.Forests.{AreValid}
use Rattle.sel_gen.proofs.forest.make_forest.Given as goal

abbrev pub invariant-trees : goal.invariant-trees
invariant-trees l = record {
  whole : (rest : List Tree) → AreToCome l.maker rest → IsMadeForest l.grammar l.seed l.trees l.size (record { trees = l.made ++ rest });
  valid : AreValid l.grammar l.made;
  many : length l.made + (l.maker).left ≤ l.trees;
  own : (l.maker).grammar ≡ l.grammar;
}

abbrev pub decreases-trees : goal.decreases-trees
decreases-trees l = (l.maker).left
