-- What is told of a rule by its number.
use Rattle.std.specs.Prelude.{◌≡◌, ℕ, Bool, true, false, Option, Some, None}
use Rattle.sel_grammar.specs.declared.grammar.Rule.{Rule}
use Rattle.sel_grammar.specs.Fits.{rule_at}
use Rattle.sel_c.specs.declared.accepted.Accepted.{Accepted}
use Rattle.sel_c.specs.declared.told.ToldRule.{ToldRule}
use Rattle.sel_c.specs.Operators.{or_greatest}

-- its external number, or the greatest one of 32 bits where it has none, and where it stands in the grammar's text
abbrev pub told_rule : Rule → ToldRule
told_rule r = record { external = or_greatest r.external; line = r.line; column = r.column }

-- the rule of this number, from 1, of what a handle holds
abbrev pub held_rule : Option Accepted → ℕ → Option Rule
held_rule None number = None
held_rule (Some a) number = rule_at a.grammar number

-- The rule is told, where there is one, and else nothing is written.
abbrev pub TellsRule : Option Rule → ToldRule → ToldRule → Bool → Type 0
TellsRule (Some r) old new told = (told ≡ true) × (new ≡ told_rule r)
TellsRule None old new told = (told ≡ false) × (new ≡ old)
