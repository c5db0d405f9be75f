use Rattle.std.proofs.Common.{◌≡◌, length}
use Rattle.sel_grammar_text.specs.Tables.{arity_in}
use Rattle.sel_grammar_text.proofs.rule_checks.arity_of.Given as goal

abbrev pub invariant-operators : goal.invariant-operators
invariant-operators l = arity_in l.rest l.name ≡ arity_in l.operators l.name

abbrev pub decreases-operators : goal.decreases-operators
decreases-operators l = length l.rest
