-- What a part prints.
use Rattle.std.proofs.Common.{◌++◌, refl, sym, ap, ◌∙◌, map}
use Rattle.sel_grammar.specs.declared.emission.Emitted.TheVariants.{Byte}
use Rattle.sel_grammar.specs.Expansions.{attribute_bytes}
use Rattle.sel_forest.proofs.PlaceLemmas.{if_ok_map}
use Rattle.sel_expand.specs.Running.{attribute_at}
use Rattle.sel_expand.specs.Printing.{printed, part_wanted, with_kids}
use Rattle.sel_expand.proofs.Sheets.{shown-bytes, text_of_kid, text_or_none}
use Rattle.sel_expand.proofs.KidValues.{puts_kid, puts_part, shows_none}
use Rattle.sel_expand.proofs.printing.put_part.Goals as goal

pub returns-in_ok-put_bytes-in-Text : goal.returns-in_ok-put_bytes-in-Text
returns-in_ok-put_bytes-in-Text g c =
    let r = with_kids c.args.own c.args.kids.now in
    puts_part g.S.Sheet.apart c.args.grammar.now c.args.nodes.now c.args.reductions.now c.args.spans.now (g.S.Sheet.told c.args.out.now) (g.S.Sheet.told c.put_bytes.new.self) r c.args.part.now (map Byte c.in-Text.text)
    (λ texts. ap (λ x. part_wanted c.args.nodes.now r x texts) c.in-Text.is)
    (c.in_ok-put_bytes-in-Text.ensures ∙ ap (λ x. g.S.Sheet.told c.args.out.now ++ x) (ap (map Byte) c.as_slice.ensures ∙ sym (shown-bytes g.S.Sheet.apart c.in-Text.text)))

pub returns-in_ok-put_attribute-in-Attribute : goal.returns-in_ok-put_attribute-in-Attribute
returns-in_ok-put_attribute-in-Attribute g c =
    let r = with_kids c.args.own c.args.kids.now in
    let bytes = attribute_bytes (attribute_at c.args.nodes.now c.args.own.at) in
    puts_part g.S.Sheet.apart c.args.grammar.now c.args.nodes.now c.args.reductions.now c.args.spans.now (g.S.Sheet.told c.args.out.now) (g.S.Sheet.told c.put_attribute.new.out) r c.args.part.now (map Byte bytes)
    (λ texts. ap (λ x. part_wanted c.args.nodes.now r x texts) c.in-Attribute.is)
    (c.in_ok-put_attribute-in-Attribute.ensures ∙ ap (λ x. g.S.Sheet.told c.args.out.now ++ x) (sym (shown-bytes g.S.Sheet.apart bytes)))

pub returns-in-Some : goal.returns-in-Some
returns-in-Some g c = if_ok_map c.put_kid.result _ _ (λ v h. puts_kid g.S.Sheet.apart c.args.grammar.now c.args.nodes.now c.args.reductions.now c.args.spans.now (g.S.Sheet.told c.args.out.now) (g.S.Sheet.told c.put_kid.new.out) v
    (with_kids c.args.own c.args.kids.now) c.args.part.now c.in-Kid.kid c.in-Some.at c.in-Kid.is (sym c.in-Some.ensures) h) c.put_kid.ensures

pub returns-in-None : goal.returns-in-None
returns-in-None g c =
    let r = with_kids c.args.own c.args.kids.now in
    printed refl (λ texts are hold. shows_none g.S.Sheet.apart (g.S.Sheet.told c.args.out.now) (part_wanted c.args.nodes.now r c.args.part.now texts)
    (sym (ap (λ x. part_wanted c.args.nodes.now r x texts) c.in-Kid.is ∙ text_of_kid texts c.args.kids.now c.in-Kid.kid ∙ ap (text_or_none texts) (sym c.in-None.ensures))))
