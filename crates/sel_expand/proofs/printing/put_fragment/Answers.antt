-- A fragment of one part is printed at once, and any other is left to be printed.
use Rattle.std.proofs.Common.{◌≡◌, ◌++◌, Some, refl, sym, ap, ◌∙◌, map}
use Rattle.sel_grammar.specs.declared.emission.Emitted.TheVariants.{Byte}
use Rattle.sel_grammar.specs.Expansions.{attribute_bytes}
use Rattle.sel_expand.specs.Running.{attribute_at, parts_at}
use Rattle.sel_expand.specs.Printing.{only_part, postponed, part_wanted, with_kids}
use Rattle.sel_expand.proofs.Sheets.{shown-bytes}
use Rattle.sel_expand.proofs.KidValues.{puts_fragment}
use Rattle.sel_expand.proofs.printing.put_fragment.Goals as goal

pub returns-in_ok-put_bytes-in-Text : goal.returns-in_ok-put_bytes-in-Text
returns-in_ok-put_bytes-in-Text g c = λ rs spans kids at.
    let r = with_kids c.args.own kids in
    let only : only_part (parts_at c.args.grammar.now c.args.own.rule) ≡ Some c.in-Some.part.now = ap only_part (sym c.parts_of.ensures) ∙ sym c.in-Some.ensures in
    puts_fragment g.S.Sheet.apart c.args.grammar.now c.args.nodes.now rs spans (g.S.Sheet.told c.args.out.now) (g.S.Sheet.told c.put_bytes.new.self) c.args.kid r c.in-Some.part.now (map Byte c.in-Text.text) at c.requires only
    (λ texts. ap (λ x. part_wanted c.args.nodes.now r x texts) c.in-Text.is)
    (c.in_ok-put_bytes-in-Text.ensures ∙ ap (λ x. g.S.Sheet.told c.args.out.now ++ x) (ap (map Byte) c.as_slice.ensures ∙ sym (shown-bytes g.S.Sheet.apart c.in-Text.text)))

pub returns-in_ok-put_attribute-in-Attribute : goal.returns-in_ok-put_attribute-in-Attribute
returns-in_ok-put_attribute-in-Attribute g c = λ rs spans kids at.
    let r = with_kids c.args.own kids in
    let bytes = attribute_bytes (attribute_at c.args.nodes.now c.args.own.at) in
    let only : only_part (parts_at c.args.grammar.now c.args.own.rule) ≡ Some c.in-Some.part.now = ap only_part (sym c.parts_of.ensures) ∙ sym c.in-Some.ensures in
    puts_fragment g.S.Sheet.apart c.args.grammar.now c.args.nodes.now rs spans (g.S.Sheet.told c.args.out.now) (g.S.Sheet.told c.put_attribute.new.out) c.args.kid r c.in-Some.part.now (map Byte bytes) at c.requires only
    (λ texts. ap (λ x. part_wanted c.args.nodes.now r x texts) c.in-Attribute.is)
    (c.in_ok-put_attribute-in-Attribute.ensures ∙ ap (λ x. g.S.Sheet.told c.args.out.now ++ x) (sym (shown-bytes g.S.Sheet.apart bytes)))

pub returns-in_default : goal.returns-in_default
returns-in_default g c = λ rs spans kids at. postponed c.args.kid (with_kids c.args.own kids) refl refl at c.requires refl (λ texts. refl)

pub returns-in-None : goal.returns-in-None
returns-in-None g c = λ rs spans kids at. postponed c.args.kid (with_kids c.args.own kids) refl refl at c.requires refl (λ texts. refl)
