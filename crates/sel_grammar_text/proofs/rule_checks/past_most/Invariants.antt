use Rattle.std.proofs.Common.{◌≡◌, ◌+◌, ◌≤◌, ◌∷◌, length, map, take, drop}
use Rattle.sel_grammar_text.specs.Checks as checks
use Rattle.sel_grammar_text.specs.Names as spec
use Rattle.sel_grammar_text.specs.Tables.{operator_names}
use Rattle.sel_grammar_text.specs.Words.{view_named, view_word, view_rule}
use Rattle.sel_grammar_text.proofs.rule_checks.past_most.Given as goal

abbrev pub invariant-names : goal.invariant-names
invariant-names l = record {
  same : checks.past_most (spec.with_words l.nonterminals (view_word l.rule.left ∷ spec.leaves (operator_names l.operators) (map view_named (take l.i l.pattern)))) (spec.leaves (operator_names l.operators) (map view_named (drop l.i l.pattern)))
      ≡ checks.past_most l.nonterminals (spec.nonterminal_words (operator_names l.operators) (view_rule l.rule));
  counted : l.count ≡ length (spec.with_words l.nonterminals (view_word l.rule.left ∷ spec.leaves (operator_names l.operators) (map view_named (take l.i l.pattern))));
  room : l.count ≤ length l.nonterminals + 1 + l.i;
}
