-- The price at an operator's kids is `kids_cost` there.
use Rattle.sel_plain.proofs.Patterns.{unary_at, binary_at}
use Rattle.sel_plain.proofs.offer.+kids_cost.Goals as goal

pub returns-in-Some-met : goal.returns-in-Some-met
returns-in-Some-met t c = unary_at _ _ _ _ _ _ _ _ _ c.in-Unary.is c.in-Some-met.ensures c.get.ensures c.kids_cost.ensures

pub returns-in-Some-met-2 : goal.returns-in-Some-met-2
returns-in-Some-met-2 t c =
    binary_at _ _ _ _ _ _ _ _ _ _ _ _ _ c.in-Binary.is c.in-Some-met-2.ensures c.get-in-Some-met-2.ensures c.get-in-Some-met-2-2.ensures
    c.kids_cost-first.ensures c.kids_cost-second.ensures c.both_costs.ensures
