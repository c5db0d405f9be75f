use Rattle.std.proofs.Common.{◌≡◌, drop}
use Rattle.std.specs.Prelude.{max}
use Rattle.sel_expand.specs.Pieces.{pieces_text}
use Rattle.sel_named.specs.TextLines.{temps_of}
use Rattle.sel_named.proofs.lines.temps_of.Given as goal

abbrev pub invariant-pieces : goal.invariant-pieces
invariant-pieces l = max (temps_of (pieces_text (drop l.piece-index l.pieces))) l.most ≡ temps_of (pieces_text l.pieces)
