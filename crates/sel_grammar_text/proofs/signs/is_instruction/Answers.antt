use Rattle.std.proofs.Common.{◌≡◌, ◌+◌, ◌∷◌, [], ◌∙◌, ap, sym, refl, drop}
use Rattle.sel_grammar_text.specs.TemplateText.{pieces, is_line_end, ends_line_from}
use Rattle.sel_grammar_text.proofs.signs.is_instruction.Goals as goal

pub pieces-init : goal.pieces-init
pieces-init c = λ at. (at, refl)

pub pieces-preserved : goal.pieces-preserved
pieces-preserved c = λ at.
    let i = c.pieces.invariant at in
    let cut : pieces i.0 c.pieces.rest.now ≡ (i.0, c.in-Some.piece) ∷ pieces (i.0 + c.in-Some.width) (drop c.in-Some.width c.pieces.rest.now) = c.in-Some.ensures.cut i.0 in (
      i.0 + c.in-Some.width,
      ap (λ e. ends_line_from e (pieces (i.0 + c.in-Some.width) c.behind-rest.result.now)) c.is_line_end_piece-ends.ensures
          ∙ ap (λ r. ends_line_from (is_line_end c.in-Some.piece) (pieces (i.0 + c.in-Some.width) r)) c.behind-rest.ensures ∙ sym (ap (ends_line_from c.pieces.ends) cut) ∙ i.1,
    )

pub returns : goal.returns
returns c = λ at.
    let i = c.pieces.invariant at in
    let cut : pieces i.0 c.pieces.rest.now ≡ [] = c.in_default.ensures.cut i.0 in
    sym (ap (ends_line_from c.pieces.ends) cut) ∙ i.1
