use Rattle.std.proofs.Common.{◌≡◌, ◌++◌, drop}
use Rattle.std.specs.List.{flat_map}
use Rattle.sel_grammar_print.specs.PrintedGrammar.{printed_operator}
use Rattle.sel_grammar_print.proofs.print.put_operators.Given as goal

abbrev pub invariant-operators : goal.invariant-operators
invariant-operators l = l.text.items ++ flat_map printed_operator (drop l.operator-index l.operators) ≡ l.initial.text.items ++ flat_map printed_operator l.operators
