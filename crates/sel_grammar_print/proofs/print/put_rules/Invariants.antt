use Rattle.std.proofs.Common.{◌≡◌, ◌++◌, drop}
use Rattle.std.specs.List.{flat_map}
use Rattle.sel_grammar_print.specs.PrintedGrammar.{operator_names, printed_rule}
use Rattle.sel_grammar_print.proofs.print.put_rules.Given as goal

abbrev pub invariant-rules : goal.invariant-rules
invariant-rules l = l.text.items ++ flat_map (printed_rule (operator_names l.grammar.operators) l.grammar.nonterminals) (drop l.rule-index l.rule-items)
    ≡ l.initial.text.items ++ flat_map (printed_rule (operator_names l.grammar.operators) l.grammar.nonterminals) l.rule-items
