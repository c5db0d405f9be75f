use Rattle.std.proofs.Common.{◌≡◌, length, map}
use Rattle.sel_grammar_text.specs.Names as spec
use Rattle.sel_grammar_text.specs.Words.{view_named}
use Rattle.sel_grammar_text.proofs.rule_checks.first_use.Given as goal

abbrev pub invariant-names : goal.invariant-names
invariant-names l = spec.first_use (map view_named l.rest) l.name ≡ spec.first_use (map view_named l.pattern) l.name

abbrev pub decreases-names : goal.decreases-names
decreases-names l = length l.rest
