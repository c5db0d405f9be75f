-- The steps of an operator's kids, and then its own.
use Rattle.sel_gen.proofs.Patterns.{unary_pushes, binary_pushes}
use Rattle.sel_gen.proofs.tasks.+push_steps.Goals as goal

pub returns-in_ok-push_steps-in-Unary : goal.returns-in_ok-push_steps-in-Unary
returns-in_ok-push_steps-in-Unary t c =
    unary_pushes c.args.range.now c.args.pattern.now c.in-Unary.operator c.in-Unary.below c.get.result.now c.args.shares.now.items c.push_steps.new.shares.items
    c.args.tasks.now.items c.push-in-Unary.new.self.items c.push_steps.new.tasks.items c.in-Unary.is c.get.ensures c.in_ok-push-in-Unary.ensures.items c.in_ok-push_steps-in-Unary.ensures

pub returns-in_ok-push_steps-in-Binary-2 : goal.returns-in_ok-push_steps-in-Binary-2
returns-in_ok-push_steps-in-Binary-2 t c =
    binary_pushes c.args.range.now c.args.pattern.now c.in-Binary.operator c.in-Binary.left c.in-Binary.right c.get-in-Binary-2.result.now c.get-in-Binary.result.now
    c.args.shares.now.items c.push_steps-in-Binary.new.shares.items c.push_steps-in-Binary-2.new.shares.items
    c.args.tasks.now.items c.push-in-Binary.new.self.items c.push_steps-in-Binary.new.tasks.items c.push_steps-in-Binary-2.new.tasks.items
    c.in-Binary.is c.get-in-Binary-2.ensures c.get-in-Binary.ensures c.in_ok-push-in-Binary.ensures.items c.in_ok-push_steps-in-Binary.ensures c.in_ok-push_steps-in-Binary-2.ensures
