use Rattle.std.specs.Prelude.{◌≤◌}
use Rattle.sel_items.specs.ChainPasses.{IsKeptFrom, total_distance}
use Rattle.sel_items.proofs.chains.close_chains.Given as goal

abbrev pub invariant-passes : goal.invariant-passes
invariant-passes g l = record { kept : IsKeptFrom l.normal l.initial.items.entries l.items.entries; steps : l.initial.steps ≤ l.steps }

abbrev pub decreases-passes : goal.decreases-passes
decreases-passes g l = total_distance l.items.entries
