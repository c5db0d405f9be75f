use Rattle.std.proofs.Common.{◌≡◌, ◌+◌, ◌++◌, [], List, true, length, refl, sym, ap, subst, ◌∙◌, arith, pos}
use Rattle.std.proofs.lemmas.Int.{ints}
use Rattle.sel_count.specs.Things.{AreValid}
use Rattle.sel_crew.specs.Crews.{grammar_of}
use Rattle.sel_answers.specs.Summing.{SumsUp}
use Rattle.sel_cli.specs.Crews.{AnswersMore, SumsUpTrees}
use Rattle.sel_cli.proofs.Summaries.{none_made, few_made, batch_made}
use Rattle.sel_cli.proofs.jobs.make.sum_made.Goals as goal

none_summed : SumsUp (record { count = 0; covered = true; sums = record { uncovered = 0; first = 0; second = pos 0 } }) []
none_summed = record {
  count = refl;
  covered = refl;
  sums = record { uncovered = refl; first = refl; second = refl; within = record { few = omega arith; first_small = omega arith; low = omega (arith, ints); high = omega (arith, ints) } };
}

pub batches-init : goal.batches-init
batches-init g c = record {
  crew = c.requires.crew;
  same = refl;
  own = c.requires.grammar;
  so_far = none_made (grammar_of c.args.crew.now) c.args.maker.now _ c.args.crew.now none_summed;
}

pub sum_batch-requires-clause-few : goal.sum_batch-requires-clause-few
sum_batch-requires-clause-few g c = λ κs lives.
    let few = few_made (grammar_of c.args.crew.now) c.args.maker.now c.batches.maker c.next_batch.new.maker c.in_ok-batch.batch.items c.batches.sums c.args.crew.now c.batches.crew _ c.batches.invariant.so_far c.in_ok-batch.ensures.fewer c.requires.few in
    let long = ap length c.deref.ensures.value in
    omega (arith, few, long)

pub batches-preserved : goal.batches-preserved
batches-preserved g c = record {
  crew = c.sum_batch.ensures.crew;
  same = subst (λ x. x ≡ grammar_of c.args.crew.now) (sym c.sum_batch.ensures.same) c.batches.invariant.same;
  own = c.next_batch.ensures.grammar ∙ c.batches.invariant.own;
  so_far = batch_made (grammar_of c.args.crew.now) (grammar_of c.batches.crew) c.args.maker.now c.batches.maker c.next_batch.new.maker c.in_ok-batch.batch.items c.batches.sums c.in_ok-sums.sums
      c.args.crew.now c.batches.crew c.sum_batch.new.crew c.batches.invariant.so_far c.batches.invariant.same c.in_ok-batch.ensures.next c.in_ok-batch.ensures.fewer
      (subst (λ x. AreValid x c.in_ok-batch.batch.items) c.batches.invariant.own c.in_ok-batch.ensures.valid)
      (λ given s. subst (λ l. SumsUpTrees (grammar_of c.batches.crew) (given ++ l) c.in_ok-sums.sums) c.deref.ensures.value (c.in_ok-sums.ensures.summed given s))
      (subst (λ l. AnswersMore l c.batches.crew c.sum_batch.new.crew) c.deref.ensures.value c.in_ok-sums.ensures.answered);
}
