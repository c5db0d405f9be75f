use Rattle.std.proofs.Common.{◌≡◌, length, arith}
use Rattle.sel_answers.specs.Output.{AreCertifiedBehind}
use Rattle.sel_cli.proofs.Batches.{none_so_far, cut_at, valid_batch, batch_written, stop_written, all_written, none_left}
use Rattle.sel_cli.proofs.Certifying.{certified_parts}
use Rattle.sel_cli.proofs.jobs.certify.write_batches.Goals as goal

pub batches-init : goal.batches-init
batches-init g c =
    let parts = certified_parts c.args.grammar.now c.items_exist.ensures c.requires.lawful c.requires.accepted in
    none_so_far c.args.grammar.now (AreCertifiedBehind c.args.grammar.now) parts c.args.trees.now (g.K.Sink.told c.args.out.now)

pub write_batch-requires-clause-trees : goal.write_batch-requires-clause-trees
write_batch-requires-clause-trees g c =
    valid_batch c.args.grammar.now c.args.trees.now c.batches.invariant.done c.batches.rest.now c.split_at.result.0.now c.split_at.result.1.now c.requires.trees c.batches.invariant.cut
    (cut_at _ c.batches.rest.now c.split_at.result.0.now c.split_at.result.1.now c.split_at.ensures.front c.split_at.ensures.back)

pub returns-in-Err : goal.returns-in-Err
returns-in-Err g c =
    let parts = certified_parts c.args.grammar.now c.items_exist.ensures c.requires.lawful c.requires.accepted in
    record {
      done = stop_written c.args.grammar.now (AreCertifiedBehind c.args.grammar.now) parts c.args.trees.now c.batches.rest.now c.split_at.result.0.now c.split_at.result.1.now c.batches.before c.batches.covered
          _ _ _ c.batches.invariant
          (cut_at _ c.batches.rest.now c.split_at.result.0.now c.split_at.result.1.now c.split_at.ensures.front c.split_at.ensures.back)
          c.in-Err.status c.requires.trees c.in-Err.ensures.done;
    }

pub batches-preserved : goal.batches-preserved
batches-preserved g c =
    let parts = certified_parts c.args.grammar.now c.items_exist.ensures c.requires.lawful c.requires.accepted in
    batch_written c.args.grammar.now (AreCertifiedBehind c.args.grammar.now) parts c.args.trees.now c.batches.rest.now c.split_at.result.0.now c.split_at.result.1.now c.batches.before c.batches.covered
    _ _ _ c.batches.invariant (cut_at _ c.batches.rest.now c.split_at.result.0.now c.split_at.result.1.now c.split_at.ensures.front c.split_at.ensures.back) c.in-Ok.all c.in-Ok.ensures.done

pub returns : goal.returns
returns g c =
    let none : length c.batches.rest.now ≡ 0 = grind (arith, c.is_empty.ensures, c.batches-test.false) in
    record { done = all_written (AreCertifiedBehind c.args.grammar.now) c.args.trees.now c.batches.rest.now c.batches.before c.batches.covered _ _ c.batches.invariant (none_left c.batches.rest.now none) }
