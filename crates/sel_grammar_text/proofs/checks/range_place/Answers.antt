use Rattle.std.proofs.Common.{◌≡◌, ◌∙◌, ap, sym, rules, cond, true, false, None, map}
use Rattle.sel_grammar_text.specs.Checks as checks
use Rattle.sel_grammar_text.specs.Tables.{operator_names}
use Rattle.sel_grammar_text.specs.Words.{view_item, view_named, view_tail}
use Rattle.sel_grammar_text.proofs.FromTables.{names_are}
use Rattle.sel_grammar_text.proofs.checks.range_place.Goals as goal

pub returns-then-is_nullary : goal.returns-then-is_nullary
returns-then-is_nullary c = λ bytes before m.
    let n : checks.is_nullary (operator_names c.args.tables.now.operators.items) (map view_named c.in-Rule.rule.pattern.items) ≡ true = search rules in
    sym (ap (λ i. checks.range_place before (view_item i)) c.in-Rule.is
    ∙ ap (λ b. cond b None (checks.range_at (view_tail c.in-Rule.rule.tail))) (ap (λ ops. checks.is_nullary ops (map view_named c.in-Rule.rule.pattern.items)) (sym (names_are bytes before c.args.tables.now m)) ∙ n))

pub returns-else-is_nullary : goal.returns-else-is_nullary
returns-else-is_nullary c = λ bytes before m.
    let n : checks.is_nullary (operator_names c.args.tables.now.operators.items) (map view_named c.in-Rule.rule.pattern.items) ≡ false = search rules in
    c.range_at.ensures
    ∙ sym (ap (λ i. checks.range_place before (view_item i)) c.in-Rule.is
    ∙ ap (λ b. cond b None (checks.range_at (view_tail c.in-Rule.rule.tail))) (ap (λ ops. checks.is_nullary ops (map view_named c.in-Rule.rule.pattern.items)) (sym (names_are bytes before c.args.tables.now m)) ∙ n))
