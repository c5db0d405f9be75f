use Rattle.std.proofs.Common.{◌+◌, ◌∷◌, ◌++◌, [], ◌∙◌, sym, ap, refl, subst, arith, suc, ◌≡◌, take}
use Rattle.std.proofs.lemmas.Option.{slice_get_read}
use Rattle.sel_full.specs.Judging.{IsWrongState}
use Rattle.sel_full.proofs.Judged.{gathered_length, wrong_here, right_more, all_right}
use Rattle.sel_full.proofs.KeyRows.{take_next}
use Rattle.sel_full.proofs.judging.gather.Goals as goal

pub returns-then-is_wrong_next-clause-fault : goal.returns-then-is_wrong_next-clause-fault
returns-then-is_wrong_next-clause-fault c =
    let at = slice_get_read c.args.list.now _ c.loop-items.items-index c.items-item.result refl c.loop-items-test.true c.items-item.is in
    let long = gathered_length c.args.list.now c.loop-items.states c.loop-items.items-index c.items-item.result c.loop-items.invariant.are at in
    record {
      here = subst (IsWrongState c.args.list.now) (sym c.len.ensures) (wrong_here c.args.list.now c.loop-items.states c.loop-items.items-index c.items-item.result c.loop-items.invariant.are at (c.is_wrong_next.ensures.yes c.if-is_wrong_next.true));
      before = λ j l. c.loop-items.invariant.right j (let e = c.len.ensures in omega (arith, l, e, long));
    }

pub loop-items-preserved : goal.loop-items-preserved
loop-items-preserved c =
    let k = c.loop-items.items-index in
    let at = slice_get_read c.args.list.now _ k c.items-item.result refl c.loop-items-test.true c.items-item.is in
    let e : k + 1 ≡ suc k = omega arith in record {
      are = c.in_ok-push.ensures.ok
          ∙ (ap (λ i. c.loop-items.states ++ i ∷ []) c.in_ok-copy.ensures ∙ (ap (λ xs. xs ++ c.items-item.result ∷ []) c.loop-items.invariant.are ∙ (sym (take_next c.args.list.now k c.items-item.result at) ∙ ap (λ n. take n c.args.list.now) (sym e))));
      right = right_more c.args.list.now c.loop-items.states k c.items-item.result c.loop-items.invariant.are at (c.is_wrong_next.ensures.no c.if-is_wrong_next.false) c.loop-items.invariant.right;
    }

pub returns-clause-right : goal.returns-clause-right
returns-clause-right c = all_right c.args.list.now c.loop-items.states c.loop-items.items-index c.loop-items-test.false c.loop-items.invariant.right
