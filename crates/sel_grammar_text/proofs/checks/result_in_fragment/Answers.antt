use Rattle.std.proofs.Common.{◌≡◌, ◌∙◌, ap, sym, cond, true, false, None, nat_eq, map}
use Rattle.sel_grammar_text.specs.Checks as checks
use Rattle.sel_grammar_text.specs.Items as items
use Rattle.sel_grammar_text.specs.TemplateText.{pieces, first_sign, ends_line_from}
use Rattle.sel_grammar_text.specs.Words.{view_item, view_named, view_tail, view_word}
use Rattle.sel_grammar_text.proofs.checks.result_in_fragment.Goals as goal

pub returns-then-is_instruction : goal.returns-then-is_instruction
returns-then-is_instruction c = λ before.
    let rule = c.in-Rule.rule in let w = c.in-OneLine.word in
    let n : ends_line_from false (pieces w.at w.bytes.now) ≡ true = sym (c.is_instruction.ensures w.at) ∙ c.if-is_instruction.true in
    sym (ap (λ i. checks.result_in_fragment before (view_item i)) c.in-Rule.is
    ∙ ap (λ t. checks.result_in_fragment before (items.RuleItem (record { left = view_word rule.left; pattern = map view_named rule.pattern.items; tail = view_tail t }))) c.in-OneLine.is
    ∙ ap (λ b. cond b None (first_sign (λ c. nat_eq c 99) (pieces w.at w.bytes.now))) n)

pub returns-else-is_instruction : goal.returns-else-is_instruction
returns-else-is_instruction c = λ before.
    let rule = c.in-Rule.rule in let w = c.in-OneLine.word in
    let n : ends_line_from false (pieces w.at w.bytes.now) ≡ false = sym (c.is_instruction.ensures w.at) ∙ c.if-is_instruction.false in
    c.result_at.ensures
    ∙ sym (ap (λ i. checks.result_in_fragment before (view_item i)) c.in-Rule.is
    ∙ ap (λ t. checks.result_in_fragment before (items.RuleItem (record { left = view_word rule.left; pattern = map view_named rule.pattern.items; tail = view_tail t }))) c.in-OneLine.is
    ∙ ap (λ b. cond b None (first_sign (λ c. nat_eq c 99) (pieces w.at w.bytes.now))) n)
