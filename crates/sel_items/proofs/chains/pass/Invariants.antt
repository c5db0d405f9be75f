use Rattle.std.proofs.Common.{◌≡◌, ◌+◌, ◌<◌, true, false, length}
use Rattle.sel_items.specs.ChainPasses.{KeepsRow, total_distance}
use Rattle.sel_items.proofs.Turns.{StandsTo}
use Rattle.sel_items.proofs.chains.pass.Given as goal

abbrev pub invariant-loop-k : goal.invariant-loop-k
invariant-loop-k g l = record {
  long : length l.row ≡ length l.initial.row;
  stays : l.changed ≡ false → l.row ≡ l.initial.row;
  stands : l.changed ≡ false → StandsTo l.normal l.initial.row l.k;
  falls : l.changed ≡ true → total_distance l.row < total_distance l.initial.row;
  steps : l.steps ≡ l.initial.steps + l.k;
  keeps : KeepsRow l.normal l.initial.row l.row;
}
