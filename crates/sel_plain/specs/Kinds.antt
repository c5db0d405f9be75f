-- The kinds of rules.
use Rattle.sel_grammar.specs.declared.grammar.Pattern.{Pattern, Leaf}
use Rattle.sel_plain.specs.declared.kind.RuleKind.{RuleKind}
use Rattle.sel_plain.specs.declared.kind.RuleKind.TheVariants.{Operator, Chain}

-- of the rule with this pattern
abbrev pub rule_kind : Pattern → RuleKind
rule_kind (Leaf n) = Chain
rule_kind _ = Operator
