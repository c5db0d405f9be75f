-- The least cost is some entry's, so it is as small as they are.
use Rattle.std.proofs.Common.{subst, Some}
use Rattle.sel_items.specs.LeastCosts.{LeastCost}
use Rattle.sel_items.specs.CostBounds.{IsBelow}
use Rattle.sel_items.proofs.Rows.{reduced_least}
use Rattle.sel_items.proofs.reduction.relative.Goals as goal

pub take_away-requires-clause-least : goal.take_away-requires-clause-least
take_away-requires-clause-least c =
    let h = subst (λ xs. LeastCost xs (Some c.in-Some.least)) c.as_slice.ensures c.in-Some.ensures in
    subst (λ x. IsBelow 50 x) (h.0).3 (c.requires (h.0).0 (h.0).1 (h.0).2)

pub take_away-requires-clause-order : goal.take_away-requires-clause-order
take_away-requires-clause-order c = (subst (λ xs. LeastCost xs (Some c.in-Some.least)) c.as_slice.ensures c.in-Some.ensures).1

pub returns-in-Some : goal.returns-in-Some
returns-in-Some c =
    reduced_least c.in-Some.least c.args.items.now.entries c.take_away.new.entries (subst (λ xs. LeastCost xs (Some c.in-Some.least)) c.as_slice.ensures c.in-Some.ensures)
    c.take_away.ensures.long c.take_away.ensures.raised
