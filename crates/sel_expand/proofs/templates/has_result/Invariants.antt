use Rattle.std.proofs.Common.{◌≡◌, length}
use Rattle.sel_grammar.specs.Expansions.{has_result}
use Rattle.sel_expand.proofs.templates.has_result.Given as goal

abbrev pub invariant-parts : goal.invariant-parts
invariant-parts l = has_result l.parts ≡ has_result l.rest

abbrev pub decreases-parts : goal.decreases-parts
decreases-parts l = length l.rest
