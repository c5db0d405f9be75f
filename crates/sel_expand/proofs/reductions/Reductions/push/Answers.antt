-- The kids stand behind the others, and the slot tells where.
use Rattle.std.proofs.Common.{◌++◌, ◌∷◌, [], arith, ap, sym, ◌∙◌, subst}
use Rattle.sel_expand.specs.Reductions.{AreWithin}
use Rattle.sel_expand.proofs.Slotted.{still_within, pushed_within, pushed_reduced}
use Rattle.sel_expand.proofs.reductions.Reductions.push.Goals as goal

pub invariant_of-self-in_err-push : goal.invariant_of-self-in_err-push
invariant_of-self-in_err-push c =
    subst (λ x. AreWithin c.put_kids.new.kids.items x) (sym (c.in_err-push.ensures).items)
    (still_within c.self.inside.kids.items c.args.kids.now c.put_kids.new.kids.items c.self.inside.slots.items c.self.invariant c.in_ok-put_kids.ensures.ok)

pub invariant_of-self-2 : goal.invariant_of-self-2
invariant_of-self-2 c =
    pushed_within c.self.inside.kids.items c.args.kids.now c.put_kids.new.kids.items c.self.inside.slots.items c.push.new.self.items c.args.own c.len-start.result c.len-end.result
    c.self.invariant c.in_ok-put_kids.ensures.ok (omega (arith, c.len-start.ensures)) (omega (arith, c.len-end.ensures)) c.in_ok-push.ensures.items

pub returns : goal.returns
returns c =
    pushed_reduced c.self.inside.kids.items c.args.kids.now c.put_kids.new.kids.items c.self.inside.slots.items c.push.new.self.items c.args.own c.len-start.result c.len-end.result
    c.self.invariant c.in_ok-put_kids.ensures.ok (omega (arith, c.len-start.ensures)) (omega (arith, c.len-end.ensures)) c.in_ok-push.ensures.items
    ∙ ap (λ x. x ++ record { own = c.args.own; kids = c.args.kids.now } ∷ []) c.self.view_is

pub invariant_of-self : goal.invariant_of-self
invariant_of-self c = let (some, grown) = c.in_err-put_kids.ensures.err in still_within c.self.inside.kids.items some c.put_kids.new.kids.items c.self.inside.slots.items c.self.invariant grown
