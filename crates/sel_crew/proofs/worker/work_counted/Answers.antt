use Rattle.std.proofs.Common.{rules, ◌≡◌, Some, refl}
use Rattle.sel_crew.proofs.Turns.{worked_by}
use Rattle.sel_crew.proofs.worker.work_counted.Goals as goal

pub returns : goal.returns
returns g c =
    let had : c.args.place.now.part ≡ Some c.in-Some-Some.part = search rules in
    worked_by c.args.task.now c.args.place.now _ c.in-Some-Some.part c.serve-part.result _ had refl refl refl refl refl c.saturating_add-place.ensures c.serve-part.ensures
