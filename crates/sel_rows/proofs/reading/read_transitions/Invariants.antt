use Rattle.std.proofs.Common.{◌≡◌}
use Rattle.sel_law.specs.Words.{read}
use Rattle.sel_rows.specs.Snapshots.{transitions_in}
use Rattle.sel_rows.proofs.reading.read_transitions.Given as goal

abbrev pub invariant-loop-place : goal.invariant-loop-place
invariant-loop-place l = l.transitions.items ≡ transitions_in (read l.words l.first l.place)
