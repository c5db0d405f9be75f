-- The slot tells where the kids stand.
use Rattle.std.proofs.Common.{◌≤◌, ap, sym, ◌∙◌, slice_get, length, subst}
use Rattle.std.specs.Prelude.{slice_range}
use Rattle.sel_expand.specs.Reductions.{kids_of}
use Rattle.sel_expand.proofs.Slotted.{slot_at, no_slot, within_at}
use Rattle.sel_expand.proofs.reductions.Reductions.kids.Goals as goal

pub part_of-requires-clause-order : goal.part_of-requires-clause-order
part_of-requires-clause-order c =
    (within_at c.self.inside.kids.items c.self.inside.slots.items c.args.at c.in-Some.slot c.self.invariant (sym (c.in-Some.ensures ∙ ap (λ x. slice_get x c.args.at) c.deref.ensures.value))).0

pub part_of-requires-clause-within : goal.part_of-requires-clause-within
part_of-requires-clause-within c =
    subst (λ x. c.in-Some.slot.end ≤ length x) (sym c.deref-in-Some.ensures.value)
    (within_at c.self.inside.kids.items c.self.inside.slots.items c.args.at c.in-Some.slot c.self.invariant (sym (c.in-Some.ensures ∙ ap (λ x. slice_get x c.args.at) c.deref.ensures.value))).1

pub returns-in-Some : goal.returns-in-Some
returns-in-Some c =
    c.part_of.ensures ∙ ap (λ x. slice_range x c.in-Some.slot.start c.in-Some.slot.end) c.deref-in-Some.ensures.value
    ∙ sym (ap kids_of (slot_at c.self.inside.kids.items c.self.inside.slots.items c.args.at c.in-Some.slot (sym (c.in-Some.ensures ∙ ap (λ x. slice_get x c.args.at) c.deref.ensures.value))))
    ∙ ap (λ x. kids_of (slice_get x c.args.at)) c.self.view_is

pub returns-in-None : goal.returns-in-None
returns-in-None c =
    sym (ap kids_of (no_slot c.self.inside.kids.items c.self.inside.slots.items c.args.at (sym (c.in-None.ensures ∙ ap (λ x. slice_get x c.args.at) c.deref.ensures.value))))
    ∙ ap (λ x. kids_of (slice_get x c.args.at)) c.self.view_is
