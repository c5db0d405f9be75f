use Rattle.std.proofs.Common.{◌≡◌, ◌∙◌, ap, sym, rules, length, nat_le}
use Rattle.sel_grammar.specs.Limits.{most_operators, most_rules}
use Rattle.sel_grammar_text.specs.Checks as checks
use Rattle.sel_grammar_text.specs.Words.{view_item}
use Rattle.sel_grammar_text.proofs.FromTables.{operators_counted, rules_counted}
use Rattle.sel_grammar_text.proofs.checks.too_many_items.Goals as goal

pub returns-in-Entry : goal.returns-in-Entry
returns-in-Entry c = λ bytes before m.
    let k : c.len.result ≡ length c.args.tables.now.operators.items = search rules in
    c.place_if.ensures ∙ ap (λ n. checks.place_if (nat_le most_operators n) c.in-Entry.name.at) (k ∙ operators_counted bytes before c.args.tables.now m)
    ∙ sym (ap (λ i. checks.too_many_items before (view_item i)) c.in-Entry.is)

pub returns-in-Rule : goal.returns-in-Rule
returns-in-Rule c = λ bytes before m.
    let k : c.len-in-Rule.result ≡ length c.args.tables.now.rules.items = search rules in
    c.place_if-in-Rule.ensures ∙ ap (λ n. checks.place_if (nat_le most_rules n) c.in-Rule.rule.left.at) (k ∙ rules_counted bytes before c.args.tables.now m)
    ∙ sym (ap (λ i. checks.too_many_items before (view_item i)) c.in-Rule.is)
