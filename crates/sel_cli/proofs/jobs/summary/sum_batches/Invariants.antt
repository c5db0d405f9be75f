use Rattle.std.proofs.Common.{◌≡◌, length}
use Rattle.sel_crew.specs.Crews.{IsCrew, grammar_of}
use Rattle.sel_cli.proofs.Summaries.{SummedSoFar}
use Rattle.sel_cli.proofs.jobs.summary.sum_batches.Given as goal

abbrev pub invariant-batches : goal.invariant-batches
invariant-batches g l = record {
  crew : IsCrew l.crew;
  same : grammar_of l.crew ≡ grammar_of l.initial.crew;
  so_far : SummedSoFar (grammar_of l.initial.crew) l.fn.trees l.rest l.sums l.initial.crew l.crew;
}

abbrev pub decreases-batches : goal.decreases-batches
decreases-batches g l = length l.rest
