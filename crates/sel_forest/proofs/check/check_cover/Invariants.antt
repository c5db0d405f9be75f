use Rattle.std.proofs.Common.{◌*◌, ◌^◌, ◌≤◌, ◌-◌, take, drop, length, pos, ◌≤ℤ◌}
use Rattle.sel_forest.proofs.Walking.{IsSoFar}
use Rattle.sel_forest.proofs.check.check_cover.Given as goal

abbrev pub invariant-numbers : goal.invariant-numbers
invariant-numbers l = record {
  first : l.total.first ≤ l.number-index * 2 ^ 16;
  second : l.total.second ≤ℤ pos (l.number-index * 2 ^ 16);
  so_far : IsSoFar l.grammar l.nodes (record { at = length l.nodes - 1; nonterminal = l.grammar.start }) l.rules (take l.number-index l.rules) (drop l.number-index l.rules) l.total l.stack.items;
}
