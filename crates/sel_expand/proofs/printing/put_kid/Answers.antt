-- The kid's value is printed, or left to be printed.
use Rattle.std.proofs.Common.{◌++◌, refl, ap, ◌∙◌, slice_get}
use Rattle.sel_forest.proofs.PlaceLemmas.{if_ok_map}
use Rattle.sel_expand.specs.Reductions.{kids_of}
use Rattle.sel_expand.specs.Sheets.{shown}
use Rattle.sel_expand.specs.Values.{text_at}
use Rattle.sel_expand.specs.Printing.{printed, with_kids}
use Rattle.sel_expand.proofs.Slotted.{own_kids, no_own_kids}
use Rattle.sel_expand.proofs.KidValues.{no_value, named_value, unnamed_value, shows_none}
use Rattle.sel_expand.proofs.printing.put_kid.Goals as goal

pub returns-in_default : goal.returns-in_default
returns-in_default g c = printed refl (λ texts are hold. shows_none g.S.Sheet.apart (g.S.Sheet.told c.args.out.now) (text_at texts c.args.kid)
    (no_value c.args.grammar.now c.args.nodes.now c.args.reductions.now texts are c.args.kid (no_own_kids (slice_get c.args.reductions.now c.args.kid) c.in_default.ensures)))

pub returns-in_ok-put_temporary-in-Named : goal.returns-in_ok-put_temporary-in-Named
returns-in_ok-put_temporary-in-Named g c =
    let o = slice_get c.args.reductions.now c.args.kid in
    printed refl (λ texts are hold. c.in_ok-put_temporary-in-Named.ensures ∙ ap (λ x. g.S.Sheet.told c.args.out.now ++ shown g.S.Sheet.apart x)
    (named_value c.args.grammar.now c.args.nodes.now c.args.reductions.now texts are c.args.kid (with_kids c.in-Some.own (kids_of o)) (own_kids o c.in-Some.own c.in-Some.ensures) c.in-Named.is))

pub returns-in-Unnamed : goal.returns-in-Unnamed
returns-in-Unnamed g c =
    let o = slice_get c.args.reductions.now c.args.kid in
    printed refl (λ texts are hold. shows_none g.S.Sheet.apart (g.S.Sheet.told c.args.out.now) (text_at texts c.args.kid)
    (unnamed_value c.args.grammar.now c.args.nodes.now c.args.reductions.now texts are c.args.kid (with_kids c.in-Some.own (kids_of o)) (own_kids o c.in-Some.own c.in-Some.ensures) c.in-Unnamed.is))

pub returns-in-None : goal.returns-in-None
returns-in-None g c =
    let o = slice_get c.args.reductions.now c.args.kid in
    if_ok_map c.put_fragment.result _ _ (λ later h. h c.args.reductions.now c.args.spans.now (kids_of o) (own_kids o c.in-Some.own c.in-Some.ensures)) c.put_fragment.ensures
