use Rattle.std.proofs.Common.{◌≡◌, ◌+◌, ◌≤◌, ◌++◌, List, length}
use Rattle.sel_forest.specs.declared.forest.Tree.{Tree}
use Rattle.sel_count.specs.Things.{AreValid}
use Rattle.sel_gen.specs.Maker.{AreToCome}
use Rattle.sel_cli.proofs.jobs.make.next_batch.Given as goal

abbrev pub invariant-trees : goal.invariant-trees
invariant-trees l = record {
  next : (rest : List Tree) → AreToCome l.maker rest → AreToCome l.initial.maker (l.batch.items ++ rest);
  valid : AreValid (l.initial.maker).grammar l.batch.items;
  fewer : length l.batch.items + (l.maker).left ≡ (l.initial.maker).left;
  own : (l.maker).grammar ≡ (l.initial.maker).grammar;
}

abbrev pub decreases-trees : goal.decreases-trees
decreases-trees l = (l.maker).left
