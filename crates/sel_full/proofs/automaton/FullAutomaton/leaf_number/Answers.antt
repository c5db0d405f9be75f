use Rattle.std.proofs.Common.{ap, sym, ◌∙◌, subst}
use Rattle.sel_range.specs.Classes.{Occurs}
use Rattle.sel_full.specs.Automata.{FullTable}
use Rattle.sel_full.proofs.Placing.{zero_follows, within_numbers, leaf_at}
use Rattle.sel_full.proofs.automaton.FullAutomaton.leaf_number.Goals as goal

pub class_place-place-requires : goal.class_place-place-requires
class_place-place-requires c = subst (λ ts. Occurs ts c.args.class) (sym (c.classes.ensures ∙ ap (λ (t : FullTable). (t.normal).tests) c.self.view_is)) c.requires.class

pub number_at-requires : goal.number_at-requires
number_at-requires c =
    within_numbers c.args.self.now c.is_lawful.ensures.lawful _ _
    (leaf_at c.args.self.now c.is_lawful.ensures.lawful c.is_lawful.ensures.standing _ _ c.in-Some.ensures _ _ _ (c.classes.ensures ∙ ap (λ (t : FullTable). (t.normal).tests) c.self.view_is) c.requires.takes c.class_place-place.ensures)

pub returns-in-None : goal.returns-in-None
returns-in-None c = zero_follows c.args.self.now c.is_lawful.ensures.lawful _ _ _ c.in-None.ensures

pub returns-in-Some : goal.returns-in-Some
returns-in-Some c =
    c.number_at.ensures _
    (leaf_at c.args.self.now c.is_lawful.ensures.lawful c.is_lawful.ensures.standing _ _ c.in-Some.ensures _ _ _ (c.classes.ensures ∙ ap (λ (t : FullTable). (t.normal).tests) c.self.view_is) c.requires.takes c.class_place-place.ensures)
