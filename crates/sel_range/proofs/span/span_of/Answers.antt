use Rattle.std.proofs.Common.{◌≡◌, ◌≤ℤ◌, subst, w64, arith, rules}
use Rattle.std.proofs.lemmas.Int.{ints, to_z-of_z}
use mir.Val.{SFits}
use Rattle.sel_range.specs.SortedCuts.{class_among}
use Rattle.sel_range.proofs.Deciding.{span_is}
use Rattle.sel_range.proofs.span.span_of.Goals as goal

pub returns : goal.returns
returns c =
    let r = c.args.test in
    let lo : SFits w64 r.lo = search rules in
    let hi : SFits w64 r.hi = search rules in
    let some : r.lo ≤ℤ r.hi = grind (arith, ints, c.if-test.false) in
    span_is c.args.sorted.now r c.class_among.result c.class_among-2.result some
    (subst (λ z. c.class_among.result ≡ class_among c.args.sorted.now z) (to_z-of_z w64 r.lo lo) c.class_among.ensures)
    (subst (λ z. c.class_among-2.result ≡ class_among c.args.sorted.now z) (to_z-of_z w64 r.hi hi) c.class_among-2.ensures)
