use Rattle.std.proofs.Common.{◌≡◌, ◌++◌, drop, map}
use Rattle.sel_expand.specs.Pieces.{pieces_text}
use Rattle.sel_named.specs.NamedTexts.{bytes_by_name}
use Rattle.sel_named.proofs.names.bytes_by_name.Given as goal

abbrev pub invariant-pieces : goal.invariant-pieces
invariant-pieces l =
    l.bytes.items ++ bytes_by_name (map (λ name. name.now) l.names) l.registers (pieces_text (drop l.piece-index l.pieces)) ≡ bytes_by_name (map (λ name. name.now) l.names) l.registers (pieces_text l.pieces)
