use Rattle.std.proofs.Common.{◌≡◌, ◌<◌, ◌⊎◌, ℕ, length}
use Rattle.std.specs.Prelude.{◌↔◌}
use Rattle.sel_normal.specs.Reach.{Leads}
use Rattle.sel_normal.proofs.reach.lead_through.Given as goal

abbrev pub invariant-loop-from : goal.invariant-loop-from
invariant-loop-from l = (n m : ℕ) → Leads l.rows n m ↔ (Leads l.initial.rows n m ⊎ ((n < l.from) × Leads l.initial.rows n l.through × Leads l.initial.rows l.through m))
