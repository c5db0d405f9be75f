-- A rule's cost makes the sum only a little greater.
use Rattle.std.proofs.Common.{sym, ◌∙◌}
use Rattle.sel_items.proofs.Widths.{IsBelow-49, offer_below_48}
use Rattle.sel_items.proofs.evaluation.rule_offer.Goals as goal

pub offer_of-requires : goal.offer_of-requires
offer_of-requires c = λ k h. IsBelow-49 k (c.cost_of.ensures.low k h)

pub returns-then-is_test_met-clause-low : goal.returns-then-is_test_met-clause-low
returns-then-is_test_met-clause-low c = λ item h.
    offer_below_48 c.args.rule.cost c.args.number c.cost_of.result item (sym c.offer_of.ensures.offer ∙ h) c.offer_of.ensures.cheap c.cost_of.ensures.low
