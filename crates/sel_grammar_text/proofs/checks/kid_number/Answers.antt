use Rattle.std.proofs.Common.{◌≡◌, ◌∙◌, ap, sym, rules, length, map}
use Rattle.sel_grammar_text.specs.Checks as checks
use Rattle.sel_grammar_text.specs.Items as items
use Rattle.sel_grammar_text.specs.Names as spec
use Rattle.sel_grammar_text.specs.Tables.{operator_names}
use Rattle.sel_grammar_text.specs.TemplateText.{pieces, first_sign}
use Rattle.sel_grammar_text.specs.Words.{view_item, view_named, view_tail, view_word}
use Rattle.sel_grammar_text.proofs.FromTables.{names_are}
use Rattle.sel_grammar_text.proofs.checks.kid_number.Goals as goal

pub returns-in-OneLine : goal.returns-in-OneLine
returns-in-OneLine c = λ bytes before m.
    let rule = c.in-Rule.rule in
    let n : c.leaf_count-leaves.result ≡ length (spec.leaves (operator_names c.args.tables.now.operators.items) (map view_named rule.pattern.items)) = search rules in
    c.past_kid_at.ensures
    ∙ ap (λ k. first_sign (checks.is_past_kid k) (pieces c.in-OneLine.word.at c.in-OneLine.word.bytes.now)) (n ∙ ap (λ ops. length (spec.leaves ops (map view_named rule.pattern.items))) (names_are bytes before c.args.tables.now m))
    ∙ sym (ap (λ i. checks.kid_number before (view_item i)) c.in-Rule.is ∙ ap (λ t. checks.kid_number before (items.RuleItem (record { left = view_word rule.left; pattern = map view_named rule.pattern.items; tail = view_tail t }))) c.in-OneLine.is)
