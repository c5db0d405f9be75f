use Rattle.std.proofs.Common.{◌≡◌, drop}
use Rattle.sel_expand.specs.Pieces.{pieces_text}
use Rattle.sel_named.specs.TextLines.{temps_by_line}
use Rattle.sel_named.specs.Cutting.{all_lines}
use Rattle.sel_named.proofs.lines.temps_by_line.Given as goal

abbrev pub invariant-pieces : goal.invariant-pieces
invariant-pieces l = all_lines l.cutter (pieces_text (drop l.piece-index l.pieces)) ≡ temps_by_line (pieces_text l.pieces)
