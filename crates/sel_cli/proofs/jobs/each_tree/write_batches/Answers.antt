use Rattle.std.proofs.Common.{◌≡◌, length, arith, [], refl}
use Rattle.sel_grammar.specs.declared.grammar.Grammar.{Grammar}
use Rattle.sel_grammar.specs.Lawful.{IsLawful}
use Rattle.sel_normal.specs.NormalFaults.{IsAccepted}
use Rattle.sel_named.specs.Laws.{NamedExists}
use Rattle.sel_work.specs.Laws.{AnswerExists}
use Rattle.sel_cli.specs.declared.jobs.each_tree.Telling.{Telling}
use Rattle.sel_cli.specs.Parts.{AreTold, HasNames}
use Rattle.sel_cli.proofs.Batches.{HasParts, none_so_far, none_more, cut_at, valid_batch, batch_answered, stop_written, all_written, all_answered, none_left}
use Rattle.sel_cli.proofs.Tellings.{told_parts}
use Rattle.sel_cli.proofs.jobs.each_tree.write_batches.Goals as goal

-- what is told has parts
parts : (grammar : Grammar) (telling : Telling) → AnswerExists → NamedExists → IsLawful grammar → IsAccepted grammar → HasNames telling → HasParts grammar (AreTold grammar telling)
parts grammar telling exist more lawful accepted names = told_parts grammar exist lawful accepted more telling names

pub batches-init : goal.batches-init
batches-init g c =
    let h = parts c.args.grammar.now c.args.telling c.answer_exists.ensures c.named_is_one.ensures.some c.requires.lawful c.requires.accepted c.requires.names in
    record {
      crew = c.requires.crew;
      same = c.requires.grammar;
      so_far = record { written = none_so_far c.args.grammar.now (AreTold c.args.grammar.now c.args.telling) h c.args.trees.now (g.K.Sink.told c.args.out.now); answered = none_more c.args.crew.now };
    }

pub write_batch-requires-clause-trees : goal.write_batch-requires-clause-trees
write_batch-requires-clause-trees g c = λ κs lives.
    let so_far = c.batches.invariant.so_far.written in
    valid_batch c.args.grammar.now c.args.trees.now so_far.done c.batches.rest.now c.split_at.result.0.now c.split_at.result.1.now c.requires.trees so_far.cut
    (cut_at _ c.batches.rest.now c.split_at.result.0.now c.split_at.result.1.now c.split_at.ensures.front c.split_at.ensures.back)

pub returns-in-Err-clause-done : goal.returns-in-Err-clause-done
returns-in-Err-clause-done g c =
    let h = parts c.args.grammar.now c.args.telling c.answer_exists.ensures c.named_is_one.ensures.some c.requires.lawful c.requires.accepted c.requires.names in
    stop_written c.args.grammar.now (AreTold c.args.grammar.now c.args.telling) h c.args.trees.now c.batches.rest.now c.split_at.result.0.now c.split_at.result.1.now c.batches.before c.batches.covered
    _ _ _ c.batches.invariant.so_far.written
    (cut_at _ c.batches.rest.now c.split_at.result.0.now c.split_at.result.1.now c.split_at.ensures.front c.split_at.ensures.back)
    c.in-Err.status c.requires.trees c.in-Err.ensures.done

pub batches-preserved : goal.batches-preserved
batches-preserved g c =
    let h = parts c.args.grammar.now c.args.telling c.answer_exists.ensures c.named_is_one.ensures.some c.requires.lawful c.requires.accepted c.requires.names in
    record {
      crew = c.write_batch.ensures.crew;
      same = c.write_batch.ensures.same;
      so_far = batch_answered c.args.grammar.now (AreTold c.args.grammar.now c.args.telling) h c.args.trees.now c.batches.rest.now c.split_at.result.0.now c.split_at.result.1.now c.batches.before c.batches.covered c.in-Ok.all
          c.args.crew.now c.batches.crew c.write_batch.new.crew _ _ _ c.batches.invariant.so_far
          (cut_at _ c.batches.rest.now c.split_at.result.0.now c.split_at.result.1.now c.split_at.ensures.front c.split_at.ensures.back)
          c.in-Ok.ensures.done c.in-Ok.ensures.answered;
    }

pub returns-clause-done : goal.returns-clause-done
returns-clause-done g c =
    let none : length c.batches.rest.now ≡ 0 = grind (arith, c.is_empty.ensures, c.batches-test.false) in
    all_written (AreTold c.args.grammar.now c.args.telling) c.args.trees.now c.batches.rest.now c.batches.before c.batches.covered _ _ c.batches.invariant.so_far.written (none_left c.batches.rest.now none)

pub returns-clause-answered : goal.returns-clause-answered
returns-clause-answered g c =
    let none : length c.batches.rest.now ≡ 0 = grind (arith, c.is_empty.ensures, c.batches-test.false) in
    all_answered (AreTold c.args.grammar.now c.args.telling) c.args.trees.now c.batches.rest.now c.batches.before c.batches.covered c.args.crew.now c.batches.crew _ _ c.batches.invariant.so_far (none_left c.batches.rest.now none)
