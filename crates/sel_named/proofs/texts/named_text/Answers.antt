-- What becomes of the pieces becomes of the text that they are.
use Rattle.std.proofs.Common.{map, List, subst, IfOk}
use Rattle.sel_expand.specs.declared.cutting.Piece.{Piece}
use Rattle.sel_expand.specs.Pieces.{pieces_text}
use Rattle.sel_named.specs.NamedTexts.{IsAllotted}
use Rattle.sel_named.proofs.Outcomes.{allotted_is_named}
use Rattle.sel_named.proofs.texts.named_text.Goals as goal

pub returns-in-Some : goal.returns-in-Some
returns-in-Some c =
    let emitted = c.in_ok-pieces.ensures.some c.in-Some.pieces c.in-Some.is in
    allotted_is_named c.args.grammar.now c.args.tree.now c.args.cover.now.rules (map (λ name. name.now) c.args.names.now) (pieces_text c.in-Some.pieces) c.named_pieces.result emitted
    (subst (λ (ps : List Piece). IfOk c.named_pieces.result (λ answer. IsAllotted (pieces_text ps) (map (λ name. name.now) c.args.names.now) answer)) c.as_slice.ensures c.named_pieces.ensures)
