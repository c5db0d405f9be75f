use Rattle.std.proofs.Common.{◌≡◌, length}
use Rattle.sel_gen.specs.Lowering.{AreUpTo, AreBuilt, total_distance}
use Rattle.sel_gen.proofs.sizes.settle.Given as goal

abbrev pub invariant-passes : goal.invariant-passes
invariant-passes l = record {
  long : length l.sizes ≡ length l.grammar.nonterminals;
  within : AreUpTo l.limit l.sizes;
  built : AreBuilt l.grammar l.sizes;
}

abbrev pub decreases-passes : goal.decreases-passes
decreases-passes l = total_distance l.limit l.sizes
