use Rattle.std.proofs.Common.{None, Some, sym, ap, ◌∙◌}
use Rattle.sel_full.proofs.Results.{on_ok}
use Rattle.sel_full.proofs.Rounds.{leaf_by, no_leaf, zero_leaf}
use Rattle.sel_full.proofs.Taken.{took_none}
use Rattle.sel_full.proofs.taking.take_leaf.Goals as goal

pub returns-in-None-clause-took : goal.returns-in-None-clause-took
returns-in-None-clause-took c = leaf_by c.args.normal.now c.args.states.now c.args.states.now c.args.operator None c.in-None.ensures.is (took_none c.args.normal.now c.args.states.now)

pub take_classes-requires-clause-leaf : goal.take_classes-requires-clause-leaf
take_classes-requires-clause-leaf c = sym c.in-Some.ensures.is ∙ ap Some c.if-kids-eq0.true

pub returns-then-kids-eq0-clause-took : goal.returns-then-kids-eq0-clause-took
returns-then-kids-eq0-clause-took c =
    on_ok _ _ c.take_classes.result
    (λ t. leaf_by c.args.normal.now c.args.states.now c.take_classes.new.states c.args.operator (Some c.in-Some.kids) c.in-Some.ensures.is (zero_leaf c.args.normal.now c.args.states.now c.take_classes.new.states c.args.operator c.in-Some.kids c.if-kids-eq0.true t))
    c.take_classes.ensures.took

pub returns-else-kids-eq0-clause-took : goal.returns-else-kids-eq0-clause-took
returns-else-kids-eq0-clause-took c =
    leaf_by c.args.normal.now c.args.states.now c.args.states.now c.args.operator (Some c.in-Some.kids) c.in-Some.ensures.is (no_leaf c.args.normal.now c.args.states.now c.args.operator c.in-Some.kids c.if-kids-eq0.false)
