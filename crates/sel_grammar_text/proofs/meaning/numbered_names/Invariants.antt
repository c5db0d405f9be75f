use Rattle.std.proofs.Common.{◌≡◌, ◌≤◌, ◌++◌, map, length}
use Rattle.std.specs.List.{AllByRecursion}
use Rattle.sel_grammar.specs.Limits.{most_kids}
use Rattle.sel_grammar_text.specs.Patterns as patterns
use Rattle.sel_grammar_text.specs.Tables.{operator_names}
use Rattle.sel_grammar_text.specs.Words.{view_named}
use Rattle.sel_grammar_text.proofs.meaning.numbered_names.Given as goal

abbrev pub invariant-names : goal.invariant-names
invariant-names l = record {
  made : l.names.items ++ map (patterns.numbered (operator_names l.operators) l.nonterminals) (map view_named l.rest) ≡ map (patterns.numbered (operator_names l.operators) l.nonterminals) (map view_named l.pattern);
  kids : AllByRecursion (λ n. n.1 ≤ most_kids) (map view_named l.rest);
}

abbrev pub decreases-names : goal.decreases-names
decreases-names l = length l.rest
