-- The leaves of an operator's kids.
use Rattle.sel_gen.proofs.Patterns.{unary_leaves, binary_leaves}
use Rattle.sel_gen.proofs.tasks.+push_leaves.Goals as goal

pub returns-in_ok-push_leaves-in-Unary : goal.returns-in_ok-push_leaves-in-Unary
returns-in_ok-push_leaves-in-Unary t c =
    unary_leaves c.args.pattern.now c.in-Unary.field-0 c.in-Unary.below c.get.result.now c.args.sizes.now c.args.leaves.now.items c.push_leaves.new.leaves.items c.in-Unary.is c.get.ensures c.in_ok-push_leaves-in-Unary.ensures

pub returns-in_ok-push_leaves-in-Binary-2 : goal.returns-in_ok-push_leaves-in-Binary-2
returns-in_ok-push_leaves-in-Binary-2 t c =
    binary_leaves c.args.pattern.now c.in-Binary.field-0 c.in-Binary.left c.in-Binary.right c.get-in-Binary.result.now c.get-in-Binary-2.result.now c.args.sizes.now
    c.args.leaves.now.items c.push_leaves-in-Binary.new.leaves.items c.push_leaves-in-Binary-2.new.leaves.items
    c.in-Binary.is c.get-in-Binary.ensures c.get-in-Binary-2.ensures c.in_ok-push_leaves-in-Binary.ensures c.in_ok-push_leaves-in-Binary-2.ensures
