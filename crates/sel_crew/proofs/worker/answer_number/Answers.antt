use Rattle.std.proofs.Common.{refl, get_or}
use Rattle.std.proofs.lemmas.Option.{slice_get-get_or}
use Rattle.sel_crew.proofs.Turns.{took_kept, took_none}
use Rattle.sel_crew.proofs.worker.answer_number.Goals as goal

pub returns-in-Some : goal.returns-in-Some
returns-in-Some g c =
    let p = c.answer_by_part-part in
    let tree = get_or c.args.task.now.trees.now c.args.number c.index-task-number.result in
    let at = slice_get-get_or c.args.task.now.trees.now c.args.number c.index-task-number.result c.requires.number in
    took_kept c.args.task.now c.args.number c.args.turn _ tree p.result.1 c.in-Some.more at p.ensures.part p.ensures.grows p.ensures.answered c.in-Some.ensures.kept refl c.saturating_add.ensures refl

pub returns-in-None : goal.returns-in-None
returns-in-None g c =
    let p = c.answer_by_part-part in
    let tree = get_or c.args.task.now.trees.now c.args.number c.index-task-number.result in
    let at = slice_get-get_or c.args.task.now.trees.now c.args.number c.index-task-number.result c.requires.number in
    took_none c.args.task.now c.args.number c.args.turn _ tree at p.ensures.part p.ensures.grows c.in-None.ensures.none refl refl
