use Rattle.std.proofs.Common.{◌+◌, ◌*◌, ◌^◌, length, vec_len}
use Rattle.sel_expand.proofs.Adding.{IsPartlyListed}
use Rattle.sel_expand.proofs.places.list_all.Given as goal

abbrev pub invariant-tasks : goal.invariant-tasks
invariant-tasks l = IsPartlyListed l.grammar l.nodes l.fn.root l.rules l.reductions l.left.items l.next l.rest l.tasks.items

abbrev pub decreases-tasks : goal.decreases-tasks
decreases-tasks l = length l.rest * 2 ^ 64 + vec_len l.tasks
