use Rattle.std.proofs.Common.{◌+◌, ap, sym, ◌∙◌, arith, length}
use Rattle.sel_full.specs.Tables.{keys_with, keys_of}
use Rattle.sel_full.proofs.Counts.{start_next, whole_start}
use Rattle.sel_full.proofs.keeping.key_count.Goals as goal

pub loop-operator-preserved : goal.loop-operator-preserved
loop-operator-preserved c =
    let n = c.args.normal.now in
    let op = c.loop-operator.operator in
    let f = c.key_count_of-count.ensures.few c.requires.few in
    let g = c.loop-operator.invariant.few in
    record {
      is = λ xs e.
          start_next n xs op ∙ (ap (λ k. k + length (keys_of n xs op)) (c.loop-operator.invariant.is xs e)
          ∙ ap (λ k. c.loop-operator.count + k) (ap (λ o. length (keys_with n xs op o)) (sym c.kids_by.ensures.is) ∙ c.key_count_of-count.ensures.is xs op e));
      few = omega arith;
    }

pub returns : goal.returns
returns c = λ xs e. whole_start c.args.normal.now xs c.loop-operator.operator c.loop-operator.count c.loop-operator-test.false c.loop-operator.auto.operator-end (c.loop-operator.invariant.is xs e)
