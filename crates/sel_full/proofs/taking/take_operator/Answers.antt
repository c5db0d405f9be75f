use Rattle.std.proofs.Common.{None, Some, sym, ap, ◌∙◌}
use Rattle.sel_full.proofs.KeySteps.{one_may}
use Rattle.sel_full.proofs.Results.{on_ok}
use Rattle.sel_full.proofs.Rounds.{operator_by, operator_none, operator_zero, operator_one, operator_two, lefts_within, two_kids}
use Rattle.sel_full.proofs.taking.take_operator.Goals as goal

pub returns-in-None-clause-took : goal.returns-in-None-clause-took
returns-in-None-clause-took c = operator_by c.args.normal.now c.args.operator c.args.last c.args.states.now c.args.states.now None c.in-None.ensures.is (operator_none c.args.normal.now c.args.operator c.args.last c.args.states.now)

pub returns-then-kids-eq0-clause-took : goal.returns-then-kids-eq0-clause-took
returns-then-kids-eq0-clause-took c =
    operator_by c.args.normal.now c.args.operator c.args.last c.args.states.now c.args.states.now (Some c.in-Some.kids) c.in-Some.ensures.is
    (operator_zero c.args.normal.now c.args.operator c.args.last c.args.states.now c.in-Some.kids c.if-kids-eq0.true)

pub take-requires-clause-may : goal.take-requires-clause-may
take-requires-clause-may c = one_may c.args.normal.now c.args.states.now c.args.operator c.args.last (sym c.in-Some.ensures.is ∙ ap Some c.if-kids-eq1.true) c.requires.last

pub returns-then-kids-eq1-clause-took : goal.returns-then-kids-eq1-clause-took
returns-then-kids-eq1-clause-took c =
    on_ok _ _ c.take.result
    (λ t. operator_by c.args.normal.now c.args.operator c.args.last c.args.states.now c.take.new.states (Some c.in-Some.kids) c.in-Some.ensures.is
    (operator_one c.args.normal.now c.args.operator c.args.last c.args.states.now c.take.new.states c.in-Some.kids c.if-kids-eq1.true t))
    c.take.ensures.took

pub take_lefts-requires-clause-two : goal.take_lefts-requires-clause-two
take_lefts-requires-clause-two c = sym c.in-Some.ensures.is ∙ ap Some (two_kids c.in-Some.kids c.if-kids-eq0.false c.if-kids-eq1.false c.in-Some.ensures.few)

pub take_rights-requires-clause-two : goal.take_rights-requires-clause-two
take_rights-requires-clause-two c = sym c.in-Some.ensures.is ∙ ap Some (two_kids c.in-Some.kids c.if-kids-eq0.false c.if-kids-eq1.false c.in-Some.ensures.few)

pub take_rights-requires-clause-last : goal.take_rights-requires-clause-last
take_rights-requires-clause-last c = lefts_within c.args.normal.now c.args.operator c.args.last c.args.states.now c.take_lefts.new.states c.requires.last c.in_ok-take_lefts-in-Some.ensures.took

pub returns-in_ok-take_lefts-in-Some-clause-took : goal.returns-in_ok-take_lefts-in-Some-clause-took
returns-in_ok-take_lefts-in-Some-clause-took c =
    on_ok _ _ c.take_rights.result
    (λ t. operator_by c.args.normal.now c.args.operator c.args.last c.args.states.now c.take_rights.new.states (Some c.in-Some.kids) c.in-Some.ensures.is
    (operator_two c.args.normal.now c.args.operator c.args.last c.args.states.now c.take_lefts.new.states c.take_rights.new.states c.in-Some.kids (two_kids c.in-Some.kids c.if-kids-eq0.false c.if-kids-eq1.false c.in-Some.ensures.few) c.requires.last c.in_ok-take_lefts-in-Some.ensures.took t))
    c.take_rights.ensures.took
