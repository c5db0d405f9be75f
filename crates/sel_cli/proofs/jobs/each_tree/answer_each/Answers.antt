use Rattle.std.proofs.Common.{[], subst}
use Rattle.sel_cli.specs.Crews.{HasAnswered}
use Rattle.sel_cli.specs.Ends.{finished}
use Rattle.sel_cli.specs.Parts.{AreTold, Stops, Writes}
use Rattle.sel_cli.proofs.Batches.{closed_writes}
use Rattle.sel_cli.proofs.Tellings.{stop_told}
use Rattle.sel_cli.proofs.jobs.each_tree.answer_each.Goals as goal

pub returns-in-Ok-write_batches : goal.returns-in-Ok-write_batches
returns-in-Ok-write_batches g c =
    let grammar = c.args.accepted.now.grammar in
    let trees = c.args.forest.now.trees in
    let out = g.K.Sink.told c.args.out.now in
    let now = g.K.Sink.told c.write_batches.new.out in
    let same = c.as_slice-trees.ensures in
    let valid = c.forests_are_valid.ensures grammar c.args.forest.now c.requires.valid in
    record {
      writes = closed_writes (AreTold grammar c.args.telling 0 trees) out now c.in-Ok-write_batches.covered c.close_behind.result.status _
          (subst (λ l. Writes (AreTold grammar c.args.telling 0 l) out now (finished c.in-Ok-write_batches.covered)) same c.in-Ok-write_batches.ensures.done) c.close_behind.ensures.status;
      reports = c.close_behind.ensures.report grammar c.args.settings trees valid
          (subst (λ l. HasAnswered grammar c.args.settings l c.write_batches.new.crew) same (c.in-Ok-write_batches.ensures.answered grammar c.args.settings [] c.in-Ok.ensures));
    }

pub returns-in-Err-write_batches : goal.returns-in-Err-write_batches
returns-in-Err-write_batches g c =
    let grammar = c.args.accepted.now.grammar in
    let out = g.K.Sink.told c.args.out.now in
    let now = g.K.Sink.told c.write_batches.new.out in
    stop_told c.args.settings grammar c.args.telling c.args.forest.now.trees out now c.in-Err-write_batches.status c.without-in-Err-write_batches.result
    (subst (λ l. Stops (AreTold grammar c.args.telling 0 l) out now c.in-Err-write_batches.status) c.as_slice-trees.ensures c.in-Err-write_batches.ensures.done) c.without-in-Err-write_batches.ensures
