-- Each turn takes one task from the stack.
use Rattle.std.proofs.Common.{[], ◌∷◌, ◌++◌, ap, ◌∙◌}
use Rattle.sel_expand.proofs.Adding.{listing_first, listing_emit, listing_derive}
use Rattle.sel_expand.proofs.places.list_all.Goals as goal

pub tasks-init : goal.tasks-init
tasks-init c =
    listing_first c.args.grammar.now c.args.nodes.now c.args.root c.args.rules.now c.clear.new.self c.clear-2.new.self.items c.push.new.self.items c.clear-3.new.self.items c.requires c.clear.ensures c.clear-2.ensures.items c.clear-3.ensures.items c.in_ok-push.ensures.items

pub tasks-preserved : goal.tasks-preserved
tasks-preserved c =
    listing_derive c.args.grammar.now c.args.nodes.now c.args.root c.args.rules.now c.tasks.reductions c.tasks.left.items c.tasks.next c.tasks.rest.now c.pop.new.self.items c.tasks.tasks.items c.tasks.invariant
    c.in-Derive.goal c.in-Some-split_first.number.now c.in-Some-split_first.others.now c.spread.new.tasks.items (c.in-Some.ensures.items ∙ ap (λ x. c.pop.new.self.items ++ x ∷ []) c.in-Derive.is)
    c.in-Some-split_first.ensures.cases.0 c.in_ok-spread-in-Some-split_first.ensures

pub tasks-preserved-in-Emit : goal.tasks-preserved-in-Emit
tasks-preserved-in-Emit c =
    listing_emit c.args.grammar.now c.args.nodes.now c.args.root c.args.rules.now c.tasks.reductions c.tasks.left.items c.tasks.next c.tasks.rest.now c.pop.new.self.items c.tasks.tasks.items c.tasks.invariant
    c.in-Emit.step c.add.new.reductions c.add.new.left.items c.in_ok-next-in-Emit.next (c.in-Some.ensures.items ∙ ap (λ x. c.pop.new.self.items ++ x ∷ []) c.in-Emit.is) c.in_ok-next-in-Emit.ensures
