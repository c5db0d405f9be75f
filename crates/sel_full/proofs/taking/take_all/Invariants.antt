use Rattle.std.proofs.Common.{◌≤◌, length}
use Rattle.sel_full.specs.Taking.{TookTo, AreFound}
use Rattle.sel_full.proofs.taking.take_all.Given as goal

abbrev pub invariant-loop-last : goal.invariant-loop-last
invariant-loop-last l = record { took : TookTo l.normal l.states l.last; found : AreFound l.normal l.limits.states l.limits.rows l.states; within : l.last ≤ length l.states }
