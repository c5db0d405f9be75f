use Rattle.std.proofs.Common.{◌≤◌, ◌-◌, vec_len}
use Rattle.sel_crew.proofs.gathering.room_for.Given as goal

abbrev pub invariant-room : goal.invariant-room
invariant-room l = vec_len l.answers ≤ l.count

abbrev pub decreases-room : goal.decreases-room
decreases-room l = l.count - vec_len l.answers
