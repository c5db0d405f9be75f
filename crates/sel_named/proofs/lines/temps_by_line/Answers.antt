-- One piece more.
use Rattle.std.proofs.Common.{◌≡◌, ◌+◌, ◌≤◌, List, length, drop, sym, ap, ◌∙◌, subst, arith, IfOk}
use Rattle.std.proofs.lemmas.List.{at_drop_all}
use Rattle.sel_expand.specs.declared.cutting.Piece.{Piece}
use Rattle.sel_expand.specs.Pieces.{pieces_text}
use Rattle.sel_regs.specs.Lives.{Lines}
use Rattle.sel_named.specs.Cutting.{all_lines}
use Rattle.sel_named.proofs.Cuts.{drop_read}
use Rattle.sel_named.proofs.lines.temps_by_line.Goals as goal

pub pieces-preserved : goal.pieces-preserved
pieces-preserved c =
    c.in_ok-put_piece.ensures (pieces_text (drop (c.pieces.piece-index + 1) c.args.pieces.now))
    ∙ ap (λ (ps : List Piece). all_lines c.pieces.cutter (pieces_text ps)) (sym (drop_read c.args.pieces.now c.pieces.piece-index c.piece-item.result c.pieces-test.true c.piece-item.is))
    ∙ c.pieces.invariant

pub returns : goal.returns
returns c =
    let past : length c.args.pieces.now ≤ c.pieces.piece-index = let h = c.pieces-test.false in omega arith in
    let whole = sym (at_drop_all (λ (ps : List Piece). all_lines c.pieces.cutter (pieces_text ps)) c.args.pieces.now c.pieces.piece-index past) ∙ c.pieces.invariant in
    subst (λ (x : Lines). IfOk c.into_lines.result (λ lines. lines.items ≡ x)) whole c.into_lines.ensures
