use Rattle.std.proofs.Common.{◌≡◌, ◌+◌, ap, sym, ◌∙◌, subst, w64, rules}
use Rattle.std.proofs.lemmas.Int.{to_z-of_z}
use mir.Val.{SFits}
use Rattle.sel_range.specs.Classes.{class_of}
use Rattle.sel_range.specs.SortedCuts.{class_among}
use Rattle.sel_range.proofs.Deciding.{few_sorted}
use Rattle.sel_range.proofs.classes.Classes.class_of.Goals as goal

pub class_among-requires-clause-few : goal.class_among-requires-clause-few
class_among-requires-clause-few c = rw c.deref.ensures.value (few_sorted _ _ c.self.invariant.few c.self.invariant.ordered)

pub returns-in-Some : goal.returns-in-Some
returns-in-Some c =
    let v = c.in-Some.number in
    let fits : SFits w64 v = search rules in
    subst (λ z. c.class_among.result ≡ class_among c.deref.result.now z) (to_z-of_z w64 v fits) c.class_among.ensures
    ∙ ap (λ cuts. class_among cuts v) c.deref.ensures.value
    ∙ ap (λ n. 1 + n) (c.self.invariant.ordered.count v)
    ∙ (λ i. class_of (c.self.view_is i) (sym c.in-Some.is i))
