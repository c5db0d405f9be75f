use Rattle.std.proofs.Common.{◌≡◌, ◌∙◌, ◌<◌, sym, ap, subst, length, drop}
use Rattle.sel_forest.specs.Pieces.{view, IsLawful}
use Rattle.sel_forest.specs.Tokens.{token_of, skip, width, End}
use Rattle.sel_forest.proofs.Lawful.{lawful}
use Rattle.sel_forest.proofs.LineCopies.{left_first, left_next, left_end, shorter_behind, view_end}
use Rattle.sel_forest.proofs.reprint.put_tokens.Goals as goal

pub tokens-init : goal.tokens-init
tokens-init c = λ ts cut small. left_first c.args.line.now c.args.text.now.items ts cut small

pub put_token-requires : goal.put_token-requires
put_token-requires c = subst IsLawful (sym c.next_token-found.ensures.token) (lawful c.tokens.attribute (skip c.tokens.rest.now))

pub returns-in-End : goal.returns-in-End
returns-in-End c = λ ts cut small.
    left_end c.tokens.attribute c.tokens.rest.now c.args.text.now.items c.tokens.text.items ts (c.tokens.invariant ts cut small) (sym c.next_token-found.ensures.token ∙ ap view c.in-End.is)

pub tokens-smaller : goal.tokens-smaller
tokens-smaller c =
    let more : view c.next_token-found.result.piece ≡ End → ⊥ = λ e. c.in_default.not-End (view_end c.next_token-found.result.piece e) in
    let behind : c.next_token-found.result.behind.now ≡ drop (width (token_of c.tokens.attribute (skip c.tokens.rest.now))) (skip c.tokens.rest.now) =
    c.next_token-found.ensures.behind ∙ ap (λ t. drop (width t) (skip c.tokens.rest.now)) c.next_token-found.ensures.token in
    subst (λ bs. length bs < length c.tokens.rest.now) (sym behind) (shorter_behind c.tokens.attribute c.tokens.rest.now (λ e. more (c.next_token-found.ensures.token ∙ e)))

pub tokens-preserved : goal.tokens-preserved
tokens-preserved c = λ ts cut small.
    left_next c.tokens.attribute c.is_colon-attribute.result c.tokens.rest.now c.next_token-found.result.behind.now c.args.text.now.items c.tokens.text.items c.put_token.new.text.items ts
    (view c.next_token-found.result.piece) (c.tokens.invariant ts cut small) c.next_token-found.ensures.token (λ e. c.in_default.not-End (view_end c.next_token-found.result.piece e))
    c.next_token-found.ensures.behind c.is_colon-attribute.ensures c.in_ok-put_token.ensures
