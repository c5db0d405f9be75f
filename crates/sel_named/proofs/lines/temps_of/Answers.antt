-- One piece more.
use Rattle.std.proofs.Common.{◌≡◌, ◌+◌, ◌≤◌, [], List, length, drop, sym, ap, ◌∙◌, arith}
use Rattle.std.specs.Prelude.{max}
use Rattle.std.proofs.lemmas.List.{at_drop_all}
use Rattle.sel_expand.specs.declared.cutting.Piece.{Piece}
use Rattle.sel_expand.specs.Pieces.{pieces_text}
use Rattle.sel_named.specs.TextLines.{temps_of}
use Rattle.sel_named.proofs.Cuts.{drop_read, more_temps}
use Rattle.sel_named.proofs.lines.temps_of.Goals as goal

pub pieces-preserved : goal.pieces-preserved
pieces-preserved c =
    let rest : List Piece = drop (c.pieces.piece-index + 1) c.args.pieces.now in
    ap (λ m. max (temps_of (pieces_text rest)) m) c.greater-most.ensures
    ∙ more_temps c.piece-item.result rest c.pieces.most
    ∙ ap (λ (ps : List Piece). max (temps_of (pieces_text ps)) c.pieces.most) (sym (drop_read c.args.pieces.now c.pieces.piece-index c.piece-item.result c.pieces-test.true c.piece-item.is))
    ∙ c.pieces.invariant

pub returns : goal.returns
returns c =
    let past : length c.args.pieces.now ≤ c.pieces.piece-index = let h = c.pieces-test.false in omega arith in
    let none : c.pieces.most ≡ max (temps_of (pieces_text [])) c.pieces.most = omega arith in
    none ∙ sym (at_drop_all (λ (ps : List Piece). max (temps_of (pieces_text ps)) c.pieces.most) c.args.pieces.now c.pieces.piece-index past) ∙ c.pieces.invariant
