-- The chain rule's offer is some entry's cost and a little more.
use Rattle.std.proofs.Common.{◌<◌, ◌^◌, ap, sym, ◌∙◌, subst, rules}
use Rattle.sel_items.specs.Entries.{item_at}
use Rattle.sel_items.specs.Evaluating.{IsBelowIn}
use Rattle.sel_items.specs.Follows.{item_cost}
use Rattle.sel_items.proofs.Closings.{total_distance-bettered}
use Rattle.sel_items.proofs.Widths.{cost_below, offer_parts, offer_below_61, wider_61}
use Rattle.sel_items.proofs.chains.turn.Goals as goal

pub offer_of-offer-requires : goal.offer_of-offer-requires
offer_of-offer-requires c =
    subst (IsBelowIn 49) (ap (λ xs. item_cost (item_at xs c.in-Chain.to)) (sym c.as_slice.ensures) ∙ sym c.cost_at.ensures)
    (cost_below 49 c.args.row.now c.in-Chain.to c.requires.below)

pub returns-in-Chain-clause-falls : goal.returns-in-Chain-clause-falls
returns-in-Chain-clause-falls c = λ h.
    let b = c.improve.ensures.bettered h in
    let is = sym c.offer_of-offer.ensures.offer ∙ b.offered_is in
    let low = subst (IsBelowIn 49) (ap (λ xs. item_cost (item_at xs c.in-Chain.to)) (sym c.as_slice.ensures) ∙ sym c.cost_at.ensures) (cost_below 49 c.args.row.now c.in-Chain.to c.requires.below) in
    let few : c.args.number < 2 ^ 16 = search rules in
    let p = offer_parts c.args.rule.cost c.args.number c.cost_at.result b.item is in
    total_distance-bettered c.args.rule.left c.offer_of-offer.result c.args.row.now c.improve.new.row b c.requires.left
    (offer_below_61 c.args.rule.cost c.args.number c.cost_at.result b.item is c.offer_of-offer.ensures.cheap low)
    (subst (λ x. x < 2 ^ 16) (sym p.3) few) (wider_61 c.args.row.now c.requires.below)
