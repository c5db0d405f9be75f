use Rattle.std.proofs.Common.{length}
use Rattle.sel_table.proofs.Items.{RowSoFar}
use Rattle.sel_table.proofs.entries.row.Given as goal

abbrev pub invariant-parts : goal.invariant-parts
invariant-parts l = RowSoFar l.rules l.line l.rest l.width l.row.items

abbrev pub decreases-parts : goal.decreases-parts
decreases-parts l = length l.rest
