use Rattle.std.proofs.Common.{◌≡◌, ◌+◌, ◌≤◌, length, map}
use Rattle.sel_grammar_text.specs.Names as spec
use Rattle.sel_grammar_text.specs.Tables.{operator_names}
use Rattle.sel_grammar_text.specs.Words.{view_named}
use Rattle.sel_grammar_text.proofs.rule_checks.leaf_count.Given as goal

abbrev pub invariant-names : goal.invariant-names
invariant-names l = record {
  same : l.count + length (spec.leaves (operator_names l.operators) (map view_named l.rest)) ≡ length (spec.leaves (operator_names l.operators) (map view_named l.pattern));
  room : l.count + length l.rest ≤ length l.pattern;
}

abbrev pub decreases-names : goal.decreases-names
decreases-names l = length l.rest
