use Rattle.std.proofs.Common.{ℕ}
use Rattle.sel_normal.proofs.Faulty.{AreFreeTo}
use Rattle.sel_normal.proofs.check.check_cycles.Given as goal

abbrev pub invariant-loop-rule : goal.invariant-loop-rule
invariant-loop-rule l = AreFreeTo l.grammar l.rule-index
