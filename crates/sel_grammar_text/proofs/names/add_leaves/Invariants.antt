use Rattle.std.proofs.Common.{◌≡◌, map, length}
use Rattle.sel_grammar_text.specs.Names as spec
use Rattle.sel_grammar_text.specs.Tables.{operator_names}
use Rattle.sel_grammar_text.specs.Words.{view_named}
use Rattle.sel_grammar_text.proofs.names.add_leaves.Given as goal

abbrev pub invariant-names : goal.invariant-names
invariant-names l = spec.with_words l.names.items (spec.leaves (operator_names l.operators) (map view_named l.rest)) ≡ spec.with_words l.fn.names.items (spec.leaves (operator_names l.operators) (map view_named l.pattern))

abbrev pub decreases-names : goal.decreases-names
decreases-names l = length l.rest
