-- The value is appended.
use Rattle.std.proofs.Common.{◌++◌, ap, ◌∙◌, slice_get}
use Rattle.sel_forest.proofs.PlaceLemmas.{if_ok_map}
use Rattle.sel_expand.specs.Reductions.{kids_of}
use Rattle.sel_expand.specs.Sheets.{shown}
use Rattle.sel_expand.specs.Values.{text_at}
use Rattle.sel_expand.specs.Printing.{with_kids}
use Rattle.sel_expand.proofs.Slotted.{own_kids, no_own_kids}
use Rattle.sel_expand.proofs.KidValues.{no_value, named_value, unnamed_value, shows_none}
use Rattle.sel_expand.proofs.Leading.{value_ended}
use Rattle.sel_expand.proofs.printing.print_value.Goals as goal

pub returns-in_default : goal.returns-in_default
returns-in_default g c = λ texts are hold. shows_none g.S.Sheet.apart (g.S.Sheet.told c.args.out.now) (text_at texts c.args.at)
    (no_value c.args.grammar.now c.args.nodes.now c.args.reductions.now texts are c.args.at (no_own_kids (slice_get c.args.reductions.now c.args.at) c.in_default.ensures))

pub returns-in_ok-put_temporary-in-Named : goal.returns-in_ok-put_temporary-in-Named
returns-in_ok-put_temporary-in-Named g c = λ texts are hold.
    let o = slice_get c.args.reductions.now c.args.at in
    c.in_ok-put_temporary-in-Named.ensures ∙ ap (λ x. g.S.Sheet.told c.args.out.now ++ shown g.S.Sheet.apart x)
    (named_value c.args.grammar.now c.args.nodes.now c.args.reductions.now texts are c.args.at (with_kids c.in-Some.own (kids_of o)) (own_kids o c.in-Some.own c.in-Some.ensures) c.in-Named.is)

pub returns-in-Unnamed : goal.returns-in-Unnamed
returns-in-Unnamed g c = λ texts are hold.
    let o = slice_get c.args.reductions.now c.args.at in
    shows_none g.S.Sheet.apart (g.S.Sheet.told c.args.out.now) (text_at texts c.args.at)
    (unnamed_value c.args.grammar.now c.args.nodes.now c.args.reductions.now texts are c.args.at (with_kids c.in-Some.own (kids_of o)) (own_kids o c.in-Some.own c.in-Some.ensures) c.in-Unnamed.is)

pub returns-in-Fragment : goal.returns-in-Fragment
returns-in-Fragment g c =
    let o = slice_get c.args.reductions.now c.args.at in
    if_ok_map c.print.result _ _ (λ full h texts are hold. value_ended g.S.Sheet.apart c.args.grammar.now c.args.nodes.now c.args.reductions.now texts are c.args.at (with_kids c.in-Some.own (kids_of o)) (own_kids o c.in-Some.own c.in-Some.ensures) c.in-Fragment.is
    c.print.new.spans.items (g.S.Sheet.told c.args.out.now) (g.S.Sheet.told c.print.new.out) full (h texts are hold)) c.print.ensures
