use Rattle.std.proofs.Common.{◌≡◌, ◌∷◌, [], subst, false}
use Rattle.sel_grammar_text.specs.TemplateText.{begins_with_text, is_text}
use Rattle.sel_grammar_text.proofs.Templates.{byte_added, part_added}
use Rattle.sel_grammar_text.proofs.template.add.Goals as goal

pub returns-in_ok-push-in-Byte : goal.returns-in_ok-push-in-Byte
returns-in_ok-push-in-Byte c = λ more.
    rw (c.in-Byte.is, c.in_ok-push-in-Byte.ensures.items) (byte_added (c.args.parts.now.items) c.args.text.items c.in-Byte.b more)

pub returns-in_ok-push-in-Part : goal.returns-in_ok-push-in-Part
returns-in_ok-push-in-Part c = λ more.
    let none : begins_with_text (c.in-Part.part ∷ []) ≡ false = subst (λ f. is_text (f) ≡ false) c.in-Part.is c.requires in
    rw (c.in-Part.is, c.in_ok-push-in-Part.ensures.items, c.new.ensures.items)
    (part_added (c.args.parts.now.items) (c.flush.new.parts.items) c.args.text.items (c.in-Part.part) none c.in_ok-flush-in-Part.ensures more)
