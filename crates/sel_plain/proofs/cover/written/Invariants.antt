use Rattle.std.proofs.Common.{◌-◌, ◌^◌, vec_len}
use Rattle.sel_plain.specs.Writing.{IsHalfWritten}
use Rattle.sel_plain.proofs.cover.written.Given as goal

abbrev pub invariant-loop-next : goal.invariant-loop-next
invariant-loop-next l = IsHalfWritten l.grammar l.nodes l.fn.goal l.rules.items l.stack.items

abbrev pub decreases-loop-next : goal.decreases-loop-next
decreases-loop-next l = 2 ^ 64 - vec_len l.rules
