use Rattle.std.proofs.Common.{◌≡◌, length, map}
use Rattle.sel_grammar_text.specs.Names as spec
use Rattle.sel_grammar_text.specs.Tables.{operator_names}
use Rattle.sel_grammar_text.specs.Words.{view_named}
use Rattle.sel_grammar_text.proofs.rule_checks.is_leaf_name.Given as goal

abbrev pub invariant-names : goal.invariant-names
invariant-names l = spec.is_among (map (λ w. w.bytes) (spec.leaves (operator_names l.operators) (map view_named l.rest))) l.name ≡ spec.is_among (map (λ w. w.bytes) (spec.leaves (operator_names l.operators) (map view_named l.pattern))) l.name

abbrev pub decreases-names : goal.decreases-names
decreases-names l = length l.rest
