use Rattle.sel_answers.specs.Output.{AreCertifiedBehind}
use Rattle.sel_cli.proofs.Writing.{this_batch}
use Rattle.sel_cli.proofs.jobs.certify.write_batch.Goals as goal

pub returns-in-Ok : goal.returns-in-Ok
returns-in-Ok g c = record {
  done = this_batch (AreCertifiedBehind c.args.grammar.now c.args.before c.args.batch.now) c.in-Ok.output.covered c.in-Ok.output.text.items c.in-Ok.ensures _ _ c.write_piece.result c.write_piece.ensures.done;
}
