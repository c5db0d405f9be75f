use Rattle.std.proofs.Common.{◌≡◌, ◌∙◌, ap, sym, rules}
use Rattle.sel_grammar_text.specs.Checks as checks
use Rattle.sel_grammar_text.specs.Names as spec
use Rattle.sel_grammar_text.specs.Tables.{operator_names}
use Rattle.sel_grammar_text.specs.Words.{view_item, view_rule}
use Rattle.sel_grammar_text.proofs.FromTables.{names_are}
use Rattle.sel_grammar_text.proofs.checks.too_many_nonterminals.Goals as goal

pub returns-in-Rule : goal.returns-in-Rule
returns-in-Rule c = λ bytes before m.
    let k : c.past_most.result ≡ checks.past_most c.args.tables.now.nonterminals.items (spec.nonterminal_words (operator_names c.args.tables.now.operators.items) (view_rule c.in-Rule.rule)) = search rules in
    k ∙ ap (λ n. checks.past_most n (spec.nonterminal_words (operator_names c.args.tables.now.operators.items) (view_rule c.in-Rule.rule))) m.nonterminals_are
    ∙ ap (λ ops. checks.past_most (spec.nonterminals before) (spec.nonterminal_words ops (view_rule c.in-Rule.rule))) (names_are bytes before c.args.tables.now m)
    ∙ sym (ap (λ i. checks.too_many_nonterminals before (view_item i)) c.in-Rule.is)
