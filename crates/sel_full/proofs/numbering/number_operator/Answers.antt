use Rattle.std.proofs.Common.{None, Some, sym, ap, ◌∙◌}
use Rattle.sel_full.proofs.Numbered.{more_none, operator_more, kids_more}
use Rattle.sel_full.proofs.Results.{on_ok}
use Rattle.sel_full.proofs.Rounds.{two_kids}
use Rattle.sel_full.proofs.numbering.number_operator.Goals as goal

pub returns-in-None : goal.returns-in-None
returns-in-None c = operator_more c.args.normal.now c.args.states.now c.args.numbers.now c.args.numbers.now c.args.operator None c.in-None.ensures.is (more_none c.args.normal.now c.args.states.now c.args.numbers.now)

pub number_classes-requires-clause-leaf : goal.number_classes-requires-clause-leaf
number_classes-requires-clause-leaf c = sym c.in-Some.ensures.is ∙ ap Some c.if-kids-eq0.true

pub returns-then-kids-eq0 : goal.returns-then-kids-eq0
returns-then-kids-eq0 c =
    on_ok _ _ c.number_classes.result
    (λ t. operator_more c.args.normal.now c.args.states.now c.args.numbers.now c.number_classes.new.numbers c.args.operator (Some c.in-Some.kids) c.in-Some.ensures.is
    (kids_more c.args.normal.now c.args.states.now c.args.numbers.now c.number_classes.new.numbers c.args.operator c.in-Some.kids 0 c.if-kids-eq0.true t))
    c.number_classes.ensures

pub number_singles-requires-clause-one : goal.number_singles-requires-clause-one
number_singles-requires-clause-one c = sym c.in-Some.ensures.is ∙ ap Some c.if-kids-eq1.true

pub returns-then-kids-eq1 : goal.returns-then-kids-eq1
returns-then-kids-eq1 c =
    on_ok _ _ c.number_singles.result
    (λ t. operator_more c.args.normal.now c.args.states.now c.args.numbers.now c.number_singles.new.numbers c.args.operator (Some c.in-Some.kids) c.in-Some.ensures.is
    (kids_more c.args.normal.now c.args.states.now c.args.numbers.now c.number_singles.new.numbers c.args.operator c.in-Some.kids 1 c.if-kids-eq1.true t))
    c.number_singles.ensures

pub number_pairs-requires-clause-two : goal.number_pairs-requires-clause-two
number_pairs-requires-clause-two c = sym c.in-Some.ensures.is ∙ ap Some (two_kids c.in-Some.kids c.if-kids-eq0.false c.if-kids-eq1.false c.in-Some.ensures.few)

pub returns-else-kids-eq1 : goal.returns-else-kids-eq1
returns-else-kids-eq1 c =
    on_ok _ _ c.number_pairs.result
    (λ t. operator_more c.args.normal.now c.args.states.now c.args.numbers.now c.number_pairs.new.numbers c.args.operator (Some c.in-Some.kids) c.in-Some.ensures.is
    (kids_more c.args.normal.now c.args.states.now c.args.numbers.now c.number_pairs.new.numbers c.args.operator c.in-Some.kids 2 (two_kids c.in-Some.kids c.if-kids-eq0.false c.if-kids-eq1.false c.in-Some.ensures.few) t))
    c.number_pairs.ensures
