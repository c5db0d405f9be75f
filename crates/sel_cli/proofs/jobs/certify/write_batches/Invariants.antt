use Rattle.std.proofs.Common.{length}
use Rattle.sel_answers.specs.Output.{AreCertifiedBehind}
use Rattle.sel_cli.proofs.Batches.{WrittenSoFar}
use Rattle.sel_cli.proofs.jobs.certify.write_batches.Given as goal

abbrev pub invariant-batches : goal.invariant-batches
invariant-batches g l = WrittenSoFar (AreCertifiedBehind l.fn.grammar) l.fn.trees l.rest l.before l.covered (g.K.Sink.told l.initial.out) (g.K.Sink.told l.out)

abbrev pub decreases-batches : goal.decreases-batches
decreases-batches g l = length l.rest
