use Rattle.std.proofs.Common.{◌≡◌, ℕ}
use Rattle.sel_normal.specs.NormalFaults.{nonterminals_to}
use Rattle.sel_normal.proofs.Faulty.{AreFewTo}
use Rattle.sel_normal.proofs.check.count_nonterminals.Given as goal

abbrev pub invariant-loop-rule : goal.invariant-loop-rule
invariant-loop-rule l = record {
  count : l.count ≡ nonterminals_to l.grammar l.rule-index;
  few : AreFewTo l.grammar l.rule-index;
}
