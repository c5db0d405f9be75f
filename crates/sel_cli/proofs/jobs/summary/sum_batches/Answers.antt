use Rattle.std.proofs.Common.{◌≡◌, length, arith, [], refl, sym, subst}
use Rattle.sel_count.specs.Things.{AreValid}
use Rattle.sel_crew.specs.Crews.{grammar_of}
use Rattle.sel_cli.proofs.Batches.{none_more, cut_at, valid_batch, none_left}
use Rattle.sel_cli.proofs.Summaries.{batch_summed, few_summed, all_sum_answered}
use Rattle.sel_cli.proofs.jobs.summary.sum_batches.Goals as goal

pub sum_batch-requires-clause-trees : goal.sum_batch-requires-clause-trees
sum_batch-requires-clause-trees g c = λ κs lives.
    let so_far = c.batches.invariant.so_far in
    subst (λ x. AreValid x c.split_at.result.0.now) (sym c.batches.invariant.same)
    (valid_batch (grammar_of c.args.crew.now) c.args.trees.now so_far.done c.batches.rest.now c.split_at.result.0.now c.split_at.result.1.now c.requires.trees so_far.cut
    (cut_at _ c.batches.rest.now c.split_at.result.0.now c.split_at.result.1.now c.split_at.ensures.front c.split_at.ensures.back))

pub sum_batch-requires-clause-few : goal.sum_batch-requires-clause-few
sum_batch-requires-clause-few g c = λ κs lives.
    few_summed (grammar_of c.args.crew.now) (grammar_of c.batches.crew) c.args.trees.now c.batches.rest.now c.split_at.result.0.now c.split_at.result.1.now c.batches.sums c.args.crew.now c.batches.crew _ c.batches.invariant.so_far
    (cut_at _ c.batches.rest.now c.split_at.result.0.now c.split_at.result.1.now c.split_at.ensures.front c.split_at.ensures.back) c.requires.few

pub batches-preserved : goal.batches-preserved
batches-preserved g c = record {
  crew = c.sum_batch.ensures.crew;
  same = subst (λ x. x ≡ grammar_of c.args.crew.now) (sym c.sum_batch.ensures.same) c.batches.invariant.same;
  so_far = batch_summed (grammar_of c.args.crew.now) (grammar_of c.batches.crew) c.args.trees.now c.batches.rest.now c.split_at.result.0.now c.split_at.result.1.now c.batches.sums _ c.args.crew.now c.batches.crew c.sum_batch.new.crew
      c.batches.invariant.so_far c.batches.invariant.same
      (cut_at _ c.batches.rest.now c.split_at.result.0.now c.split_at.result.1.now c.split_at.ensures.front c.split_at.ensures.back)
      c.in_ok-sums.ensures.summed c.in_ok-sums.ensures.answered;
}

pub returns-clause-answered : goal.returns-clause-answered
returns-clause-answered g c =
    let none : length c.batches.rest.now ≡ 0 = grind (arith, c.is_empty.ensures, c.batches-test.false) in
    all_sum_answered (grammar_of c.args.crew.now) c.args.trees.now c.batches.rest.now c.batches.sums c.args.crew.now c.batches.crew c.batches.invariant.so_far (none_left c.batches.rest.now none)
