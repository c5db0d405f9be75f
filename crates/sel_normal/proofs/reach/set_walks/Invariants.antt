use Rattle.std.proofs.Common.{ℕ}
use Rattle.sel_normal.specs.Reach.{Leads}
use Rattle.sel_normal.proofs.Closing.{IsReach}
use Rattle.sel_normal.proofs.reach.set_walks.Given as goal

abbrev pub invariant-loop-through : goal.invariant-loop-through
invariant-loop-through l = IsReach l.grammar l.through (Leads l.rows)
