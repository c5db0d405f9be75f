use Rattle.std.proofs.Common.{◌≡◌}
use Rattle.sel_crew.specs.Crews.{IsCrew, grammar_of}
use Rattle.sel_cli.proofs.Summaries.{MadeSoFar}
use Rattle.sel_cli.proofs.jobs.make.sum_made.Given as goal

abbrev pub invariant-batches : goal.invariant-batches
invariant-batches g l = record {
  crew : IsCrew l.crew;
  same : grammar_of l.crew ≡ grammar_of l.initial.crew;
  own : (l.maker).grammar ≡ grammar_of l.initial.crew;
  so_far : MadeSoFar (grammar_of l.initial.crew) l.initial.maker l.maker l.sums l.initial.crew l.crew;
}

abbrev pub decreases-batches : goal.decreases-batches
decreases-batches g l = (l.maker).left
