use Rattle.std.proofs.Common.{◌≡◌, ◌<◌, true, false, length}
use Rattle.sel_gen.specs.Lowering.{AreUpTo, AreBuilt, total_distance}
use Rattle.sel_gen.proofs.Settled.{WithstoodTo}
use Rattle.sel_gen.proofs.sizes.lower_all.Given as goal

abbrev pub invariant-loop-k : goal.invariant-loop-k
invariant-loop-k l = record {
  long : length l.sizes ≡ length l.initial.sizes;
  withstood : l.changed ≡ false → WithstoodTo l.grammar l.limit l.sizes l.k;
  falls : l.changed ≡ true → total_distance l.limit l.sizes < total_distance l.limit l.initial.sizes;
  same : l.changed ≡ false → l.sizes ≡ l.initial.sizes;
  within : AreUpTo l.limit l.sizes;
  built : AreBuilt l.grammar l.sizes;
}
