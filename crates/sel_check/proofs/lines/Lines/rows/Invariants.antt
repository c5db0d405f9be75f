use Rattle.sel_check.proofs.Reading.{RowsSoFar}
use Rattle.sel_check.proofs.lines.Lines.rows.Given as goal

abbrev pub invariant-nodes : goal.invariant-nodes
invariant-nodes l = RowsSoFar l.initial.self l.self l.width l._node-index l.rows
