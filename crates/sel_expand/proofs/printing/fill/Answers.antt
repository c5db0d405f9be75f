-- The template is at its end, or goes on by a part, or gives way to a kid's.
use Rattle.std.proofs.Common.{◌≡◌, ◌+◌, ◌++◌, ◌∷◌, [], Some, None, refl, sym, ap, ◌∙◌, slice_get, arith}
use Rattle.sel_expand.specs.declared.printing.Frame.TheVariants.{Fill, Note}
use Rattle.sel_expand.specs.Running.{parts_at}
use Rattle.sel_expand.specs.Printing.{ended, filled_up, with_kids}
use Rattle.sel_expand.proofs.Slotted.{own_kids, no_own_kids}
use Rattle.sel_expand.proofs.Leading.{filled_first, filled_next, filled_left, no_template, template_ended, get_within}
use Rattle.sel_expand.proofs.printing.fill.Goals as goal

pub returns-in_default : goal.returns-in_default
returns-in_default g c = ended c.args.first refl refl (filled_first g.S.Sheet.apart c.args.grammar.now c.args.nodes.now c.args.reductions.now c.args.spans.now c.args.at c.args.first (g.S.Sheet.told c.args.out.now))
    (no_template c.args.grammar.now c.args.nodes.now c.args.reductions.now c.args.at c.args.first (no_own_kids (slice_get c.args.reductions.now c.args.at) c.in_default.ensures))

pub returns-then-is_full : goal.returns-then-is_full
returns-then-is_full g c = filled_up c.parts.place refl (c.if-is_full.ensures.over refl) c.parts.invariant.filled

pub overflow_add-place : goal.overflow_add-place
overflow_add-place g c = let w = get_within c.parts_of-parts.result.now c.parts.place c.in-Some-part_at.part.now (sym c.in-Some-part_at.ensures) in omega (arith, w)

pub overflow_add-place-in-Some-part_at : goal.overflow_add-place-in-Some-part_at
overflow_add-place-in-Some-part_at g c = let w = get_within c.parts_of-parts.result.now c.parts.place c.in-Some-part_at.part.now (sym c.in-Some-part_at.ensures) in omega (arith, w)

pub returns-in-Some-2 : goal.returns-in-Some-2
returns-in-Some-2 g c =
    let rs = c.args.reductions.now in
    let o = slice_get rs c.args.at in
    let r = with_kids c.in-Some.own c.kids-kids.result.now in
    let at : slice_get rs c.args.at ≡ Some r = own_kids o c.in-Some.own c.in-Some.ensures ∙ ap (λ k. Some (with_kids c.in-Some.own k)) (sym c.kids-kids.ensures) in
    let here : slice_get (parts_at c.args.grammar.now c.in-Some.own.rule) c.parts.place ≡ Some c.in-Some-part_at.part.now = ap (λ x. slice_get x c.parts.place) (sym c.parts_of-parts.ensures) ∙ sym c.in-Some-part_at.ensures in
    filled_left g.S.Sheet.apart c.args.grammar.now c.args.nodes.now rs c.args.spans.now c.args.at c.args.first c.parts.place c.in-Some-2.kid (g.S.Sheet.told c.args.out.now) (g.S.Sheet.told c.parts.out) (g.S.Sheet.told c.put_part.new.out)
    c.args.frames.now.items c.push-in-Some-2-2.new.self.items c.in_ok-kid.field-0 r c.in-Some-part_at.part.now c.in-Some-2.is c.parts.invariant.from at here c.parts.invariant.filled c.in_ok-kid.ensures
    (c.in_ok-push-3.ensures.items ∙ ap (λ x. x ++ Fill c.in-Some-2.kid 0 ∷ []) (c.in_ok-push-2.ensures.items
    ∙ (λ j. (c.in_ok-push.ensures.items ∙ ap (λ x. x ++ Fill c.args.at (c.parts.place + 1) ∷ []) c.parts.invariant.frames) j ++ Note c.in-Some-2.kid (c.len.ensures j) ∷ [])))

pub parts-smaller : goal.parts-smaller
parts-smaller g c = let w = get_within c.parts_of-parts.result.now c.parts.place c.in-Some-part_at.part.now (sym c.in-Some-part_at.ensures) in omega (arith, w)

pub parts-preserved : goal.parts-preserved
parts-preserved g c =
    let rs = c.args.reductions.now in
    let o = slice_get rs c.args.at in
    let r = with_kids c.in-Some.own c.kids-kids.result.now in
    let at : slice_get rs c.args.at ≡ Some r = own_kids o c.in-Some.own c.in-Some.ensures ∙ ap (λ k. Some (with_kids c.in-Some.own k)) (sym c.kids-kids.ensures) in
    let here : slice_get (parts_at c.args.grammar.now c.in-Some.own.rule) c.parts.place ≡ Some c.in-Some-part_at.part.now = ap (λ x. slice_get x c.parts.place) (sym c.parts_of-parts.ensures) ∙ sym c.in-Some-part_at.ensures in
    record {
      from = omega (arith, c.parts.invariant.from);
      frames = c.parts.invariant.frames;
      filled = filled_next g.S.Sheet.apart c.args.grammar.now c.args.nodes.now rs c.args.spans.now c.args.at c.args.first c.parts.place (g.S.Sheet.told c.args.out.now) (g.S.Sheet.told c.parts.out) (g.S.Sheet.told c.put_part.new.out)
          c.in_ok-kid.field-0 r c.in-Some-part_at.part.now c.in_default-2.is at here c.parts.invariant.filled c.in_ok-kid.ensures;
    }

pub returns : goal.returns
returns g c =
    let rs = c.args.reductions.now in
    let o = slice_get rs c.args.at in
    let r = with_kids c.in-Some.own c.kids-kids.result.now in
    let at : slice_get rs c.args.at ≡ Some r = own_kids o c.in-Some.own c.in-Some.ensures ∙ ap (λ k. Some (with_kids c.in-Some.own k)) (sym c.kids-kids.ensures) in
    let none : slice_get (parts_at c.args.grammar.now c.in-Some.own.rule) c.parts.place ≡ None = ap (λ x. slice_get x c.parts.place) (sym c.parts_of-parts.ensures) ∙ sym c.in_default-part_at.ensures in
    ended c.parts.place refl c.parts.invariant.frames c.parts.invariant.filled (template_ended c.args.grammar.now c.args.nodes.now rs c.args.at c.parts.place r at none)
