use Rattle.sel_check.proofs.Checking.{CheckedSoFar}
use Rattle.sel_check.proofs.checker.check.Given as goal

abbrev pub invariant-trees : goal.invariant-trees
invariant-trees l = CheckedSoFar l.grammar l.forest l.bytes l.lines l.tree-index l.number l.verdict
