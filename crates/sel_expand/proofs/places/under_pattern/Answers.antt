-- The goals under an operator are those of its kids.
use Rattle.std.proofs.Common.{subst}
use Rattle.sel_expand.specs.Steps.{IsUnder}
use Rattle.sel_expand.proofs.Unders.{unary_are, binary_are}
use Rattle.sel_expand.proofs.places.under_pattern.Goals as goal

pub returns-in-Unary : goal.returns-in-Unary
returns-in-Unary c = subst (IsUnder c.under_one.result) (unary_are _ _ _ c.get.result.now c.args.nodes.now c.args.at c.in-Unary.is c.get.ensures) c.under_one.ensures

pub returns-in-Binary : goal.returns-in-Binary
returns-in-Binary c = subst (IsUnder c.under_both.result) (binary_are _ _ _ _ c.get-in-Binary.result.now c.get-in-Binary-2.result.now c.args.nodes.now c.args.at c.in-Binary.is c.get-in-Binary.ensures c.get-in-Binary-2.ensures) c.under_both.ensures
