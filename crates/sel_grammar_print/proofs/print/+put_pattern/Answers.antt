use Rattle.std.proofs.Common.{rules, ◌≡◌, ◌∙◌, ap, ◌++◌}
use Rattle.sel_grammar_text.specs.Printing.{name_at}
use Rattle.sel_grammar_print.specs.PrintedGrammar.{operator_names}
use Rattle.sel_grammar_print.proofs.PrintedSteps.{unary, binary}
use Rattle.sel_grammar_print.proofs.print.+put_pattern.Goals as goal

pub returns-in_ok-put-in-Unary-3 : goal.returns-in_ok-put-in-Unary-3
returns-in_ok-put-in-Unary-3 t c =
    let ops = operator_names c.args.grammar.now.operators in
    let k : c.put-in-Unary.new.text.items ≡ c.args.text.now.items ++ name_at ops c.in-Unary.op =
    c.in_ok-put-in-Unary.ensures ∙ ap (λ x. c.args.text.now.items ++ x) (search rules) in
    unary ops c.args.grammar.now.nonterminals c.args.text.now.items _ _ _ _ c.in-Unary.op c.args.pattern.now _ c.in-Unary.kid c.in-Unary.is c.get.ensures
    k c.in_ok-put-in-Unary-2.ensures c.in_ok-put_pattern-in-Unary.ensures c.in_ok-put-in-Unary-3.ensures

pub returns-in_ok-put-in-Binary-4 : goal.returns-in_ok-put-in-Binary-4
returns-in_ok-put-in-Binary-4 t c =
    let ops = operator_names c.args.grammar.now.operators in
    let k : c.put-in-Binary.new.text.items ≡ c.args.text.now.items ++ name_at ops c.in-Binary.op =
    c.in_ok-put-in-Binary.ensures ∙ ap (λ x. c.args.text.now.items ++ x) (search rules) in
    binary ops c.args.grammar.now.nonterminals c.args.text.now.items _ _ _ _ _ _ c.in-Binary.op c.args.pattern.now _ _ c.in-Binary.left c.in-Binary.right c.in-Binary.is
    c.get-in-Binary.ensures c.get-in-Binary-2.ensures k c.in_ok-put-in-Binary-2.ensures
    c.in_ok-put_pattern-in-Binary.ensures c.in_ok-put-in-Binary-3.ensures c.in_ok-put_pattern-in-Binary-2.ensures c.in_ok-put-in-Binary-4.ensures
