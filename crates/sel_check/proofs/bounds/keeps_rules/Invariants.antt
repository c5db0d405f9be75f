use Rattle.std.proofs.Common.{◌≡◌, ℕ, ◌<◌, Some, slice_get}
use Rattle.sel_grammar.specs.declared.grammar.Rule.{Rule}
use Rattle.sel_check.specs.Bounding.{KeepsRule}
use Rattle.sel_check.proofs.bounds.keeps_rules.Given as goal

abbrev pub invariant-loop-rule : goal.invariant-loop-rule
invariant-loop-rule l = (k : ℕ) (rule : Rule) → k < l.rule-index → slice_get l.grammar.rules k ≡ Some rule → KeepsRule l.nodes l.costs l.at rule
