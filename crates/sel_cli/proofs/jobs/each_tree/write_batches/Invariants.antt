use Rattle.std.proofs.Common.{◌≡◌, length}
use Rattle.sel_crew.specs.Crews.{IsCrew, grammar_of}
use Rattle.sel_cli.specs.Parts.{AreTold}
use Rattle.sel_cli.proofs.Batches.{AnsweredSoFar}
use Rattle.sel_cli.proofs.jobs.each_tree.write_batches.Given as goal

abbrev pub invariant-batches : goal.invariant-batches
invariant-batches g l = record {
  crew : IsCrew l.crew;
  same : grammar_of l.crew ≡ l.fn.grammar;
  so_far : AnsweredSoFar (AreTold l.fn.grammar l.fn.telling) l.fn.trees l.rest l.before l.covered l.initial.crew l.crew (g.K.Sink.told l.initial.out) (g.K.Sink.told l.out);
}

abbrev pub decreases-batches : goal.decreases-batches
decreases-batches g l = length l.rest
