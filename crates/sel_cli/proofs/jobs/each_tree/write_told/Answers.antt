use Rattle.sel_cli.specs.Parts.{AreTold}
use Rattle.sel_cli.proofs.Writing.{this_batch}
use Rattle.sel_cli.proofs.jobs.each_tree.write_told.Goals as goal

pub returns-in-Ok : goal.returns-in-Ok
returns-in-Ok g c = record {
  done = this_batch (AreTold c.args.grammar.now c.args.telling c.args.before c.args.batch.now) c.in-Ok.output.covered c.in-Ok.output.text.items c.in-Ok.ensures _ _ c.write_piece.result c.write_piece.ensures.done;
}
