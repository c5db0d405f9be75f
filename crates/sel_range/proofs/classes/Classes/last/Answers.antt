use Rattle.std.proofs.Common.{◌≡◌, ◌+◌, List, subst, sym, arith, rules}
use Rattle.std.proofs.lemmas.Grind.{common_steps}
use Rattle.sel_base.specs.declared.range.Range.{Range}
use Rattle.sel_range.specs.Classes.{Occurs, cuts, last_class}
use Rattle.sel_range.specs.SortedCuts.{AreInOrder}
use Rattle.sel_range.proofs.Deciding.{few_sorted}
use Rattle.sel_range.proofs.Occurring.{last_occurs}
use Rattle.sel_range.proofs.classes.Classes.last.Goals as goal

pub overflow_cast-result : goal.overflow_cast-result
overflow_cast-result c =
    let few = few_sorted _ _ c.self.invariant.few c.self.invariant.ordered in
    search (rules, few)

pub overflow_add-result : goal.overflow_add-result
overflow_add-result c =
    let few = few_sorted _ _ c.self.invariant.few c.self.invariant.ordered in
    search (rules, few)

pub returns-clause-occurs : goal.returns-clause-occurs
returns-clause-occurs c =
    let sorted = c.self.inside.cuts.items in
    let ordered : AreInOrder (cuts c.args.self.now) sorted = subst (λ (tests : List Range). AreInOrder (cuts tests) sorted) c.self.view_is c.self.invariant.ordered in
    let total = ordered.total in
    let count : c.len.result + 1 ≡ last_class c.args.self.now = grind (arith, common_steps) in
    subst (Occurs c.args.self.now) (sym count) (last_occurs c.args.self.now sorted ordered)
