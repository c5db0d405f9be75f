use Rattle.std.proofs.Common.{◌≡◌, map, length}
use Rattle.sel_grammar_text.specs.Names as spec
use Rattle.sel_grammar_text.specs.Tables.{operator_names, with_uses}
use Rattle.sel_grammar_text.specs.Words.{view_word, view_named}
use Rattle.sel_grammar_text.proofs.names.add_uses.Given as goal

abbrev pub invariant-names : goal.invariant-names
invariant-names l = with_uses (map view_word l.uses.items) (spec.leaves (operator_names l.operators) (map view_named l.rest)) ≡ with_uses (map view_word l.fn.uses.items) (spec.leaves (operator_names l.operators) (map view_named l.pattern))

abbrev pub decreases-names : goal.decreases-names
decreases-names l = length l.rest
