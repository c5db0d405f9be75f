use Rattle.std.proofs.Common.{◌≡◌, ◌++◌, length, ℕ}
use Rattle.sel_normal.specs.Forms as form
use Rattle.sel_normal.proofs.form.tests_of.Given as goal

abbrev pub invariant-tested : goal.invariant-tested
invariant-tested l = l.ranges.items ++ form.tests l.rest ≡ form.tests l.grammar.rules

abbrev pub decreases-tested : goal.decreases-tested
decreases-tested l = length l.rest
