use Rattle.std.proofs.Common.{sym, arith}
use Rattle.std.specs.Prelude.{slice_index}
use Rattle.sel_law.specs.Words.{intern_at}
use Rattle.sel_rows.proofs.Numbering.{by_number_begins, by_number_free, by_number_taken}
use Rattle.sel_rows.proofs.reading.order_by_number.Goals as goal

pub loop-place-init : goal.loop-place-init
loop-place-init c = by_number_begins c.args.words.now c.args.states c.in_ok-found.found.items (c.in_ok-found.ensures.items_if_clones_equal (λ y h. h))

pub loop-place-preserved-then-word-eq0 : goal.loop-place-preserved-then-word-eq0
loop-place-preserved-then-word-eq0 c = by_number_free c.args.words.now c.args.states c.loop-place.place c.loop-place.found.items c.loop-place.invariant c.if-word-eq0.true

pub loop-place-preserved : goal.loop-place-preserved
loop-place-preserved c =
    let ws = c.args.words.now in
    let k = c.loop-place.place in
    let word = slice_index ws (intern_at k) in
    let lt = c.loop-place-test.true in
    by_number_taken ws c.args.states k c.loop-place.found.items c.loop-place.invariant word (λ _. word) (λ e. c.if-word-eq0.false e) (c.requires.below k lt)
    (λ p before e. let same = c.requires.apart k p lt (omega arith) (λ z. c.if-word-eq0.false z) (sym e) in omega arith)
