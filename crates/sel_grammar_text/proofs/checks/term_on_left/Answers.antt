use Rattle.std.proofs.Common.{◌≡◌, ◌∙◌, ap, sym, rules}
use Rattle.sel_grammar_text.specs.Checks as checks
use Rattle.sel_grammar_text.specs.Names as spec
use Rattle.sel_grammar_text.specs.Tables.{operator_names}
use Rattle.sel_grammar_text.specs.Words.{view_item}
use Rattle.sel_grammar_text.proofs.FromTables.{names_are}
use Rattle.sel_grammar_text.proofs.checks.term_on_left.Goals as goal

pub returns-in-Rule : goal.returns-in-Rule
returns-in-Rule c = λ bytes before m.
    let k : c.is_operator.result ≡ spec.is_among (operator_names c.args.tables.now.operators.items) c.in-Rule.rule.left.bytes.now = search rules in
    c.place_if.ensures ∙ ap (λ b. checks.place_if b c.in-Rule.rule.left.at) (k ∙ ap (λ ops. spec.is_among ops c.in-Rule.rule.left.bytes.now) (names_are bytes before c.args.tables.now m))
    ∙ sym (ap (λ i. checks.term_on_left before (view_item i)) c.in-Rule.is)
