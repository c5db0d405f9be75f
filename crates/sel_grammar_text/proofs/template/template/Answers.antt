use Rattle.std.proofs.Common.{◌≡◌, ◌+◌, ◌++◌, ap, sym, ◌∙◌, drop}
use Rattle.sel_grammar_text.specs.TemplateText.{pieces, parts_of, template_of, add_bytes, put}
use Rattle.sel_grammar_text.proofs.Templates.{end_step}
use Rattle.sel_grammar_text.proofs.template.template.Goals as goal

pub pieces-preserved : goal.pieces-preserved
pieces-preserved c =
    let i = c.pieces.invariant in
    let w = c.in-Some.width in
    let found = c.addition_of.result in
    let read : parts_of (pieces i.0 c.pieces.rest.now) ≡ put found (parts_of (pieces (i.0 + w) c.behind-rest.result.now)) =
    ap parts_of (c.in-Some.ensures.cut i.0) ∙ c.addition_of.ensures.put i.0 (pieces (i.0 + w) (drop w c.pieces.rest.now))
    ∙ ap (λ bs. put found (parts_of (pieces (i.0 + w) bs))) (sym c.behind-rest.ensures) in
    (i.0 + w, c.in_ok-text.ensures (parts_of (pieces (i.0 + w) c.behind-rest.result.now)) ∙ ap (λ x. c.pieces.parts.items ++ add_bytes c.pieces.text.items x) (sym read) ∙ i.1)

pub returns : goal.returns
returns c =
    let i = c.pieces.invariant in
    end_step (c.pieces.parts.items) (c.flush.new.parts.items) c.pieces.text.items (parts_of (pieces i.0 c.pieces.rest.now)) (template_of c.args.inside.now)
    (ap parts_of (c.in_default.ensures.cut i.0)) c.in_ok-flush.ensures i.1
