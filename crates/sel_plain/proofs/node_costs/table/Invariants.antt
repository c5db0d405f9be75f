use Rattle.std.proofs.Common.{◌≡◌, length}
use Rattle.sel_plain.proofs.NodeCosts.{AreRows}
use Rattle.sel_plain.proofs.node_costs.table.Given as goal

abbrev pub invariant-loop-at : goal.invariant-loop-at
invariant-loop-at l = record {
  long : length l.costs ≡ l.at;
  rows : AreRows l.table.rows l.width l.costs;
}
