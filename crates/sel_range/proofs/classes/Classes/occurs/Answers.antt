use Rattle.std.proofs.Common.{List, ap, sym, ◌∙◌, subst}
use Rattle.std.specs.Prelude.{◌+◌, ◌↔◌, IsTrue}
use Rattle.sel_base.specs.declared.range.Range.{Range}
use Rattle.sel_range.specs.Classes.{Occurs, OccursByRule, cuts}
use Rattle.sel_range.specs.Limits.{least_number}
use Rattle.sel_range.specs.SortedCuts.{AreInOrder, class_among}
use Rattle.sel_range.proofs.Deciding.{few_sorted}
use Rattle.sel_range.proofs.Occurring.{span_value, span_rule}
use Rattle.sel_range.proofs.classes.Classes.occurs.Goals as goal

pub class_among-requires-clause-few : goal.class_among-requires-clause-few
class_among-requires-clause-few c = rw c.deref.ensures.value (few_sorted _ _ c.self.invariant.few c.self.invariant.ordered)

pub returns-else-class-eq0-clause-value : goal.returns-else-class-eq0-clause-value
returns-else-class-eq0-clause-value c =
    let sorted = c.self.inside.cuts.items in
    let ordered : AreInOrder (cuts c.args.self.now) sorted = subst (λ (tests : List Range). AreInOrder (cuts tests) sorted) c.self.view_is c.self.invariant.ordered in
    let first = c.class_among.ensures ∙ ap (λ held. class_among held least_number) c.deref.ensures.value ∙ ap (λ n. 1 + n) (ordered.count least_number) in
    subst (λ b. IsTrue b ↔ Occurs c.args.self.now c.args.class) (sym c.contains.ensures)
    (span_value c.args.self.now sorted ordered (record { first = c.class_among.result; last = c.last.result }) first c.last.ensures.count c.args.class c.if-class-eq0.false)

pub returns-else-class-eq0-clause-rule : goal.returns-else-class-eq0-clause-rule
returns-else-class-eq0-clause-rule c =
    let sorted = c.self.inside.cuts.items in
    let ordered : AreInOrder (cuts c.args.self.now) sorted = subst (λ (tests : List Range). AreInOrder (cuts tests) sorted) c.self.view_is c.self.invariant.ordered in
    let first = c.class_among.ensures ∙ ap (λ held. class_among held least_number) c.deref.ensures.value ∙ ap (λ n. 1 + n) (ordered.count least_number) in
    subst (λ b. IsTrue b ↔ OccursByRule c.args.self.now c.args.class) (sym c.contains.ensures)
    (span_rule c.args.self.now sorted ordered (record { first = c.class_among.result; last = c.last.result }) first c.last.ensures.count c.args.class c.if-class-eq0.false)
