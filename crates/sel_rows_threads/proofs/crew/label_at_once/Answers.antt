use Rattle.std.proofs.Common.{subst, arith}
use Rattle.sel_rows_threads.specs.Reports.{IsReportOf}
use Rattle.sel_rows_threads.proofs.Gathered.{at_index, index_in}
use Rattle.sel_rows_threads.proofs.crew.label_at_once.Goals as goal

pub map_vec-requires-after_bounds : goal.map_vec-requires-after_bounds
map_vec-requires-after_bounds g c = λ κs lives i x lt e.
    let there = index_in c.args.parts.items x i lt e in
    (c.requires.parts x there, (c.requires.fresh x there).one_seat, c.requires.normal, c.requires.forest)

pub returns-clause-reports : goal.returns-clause-reports
returns-clause-reports g c = λ r h.
    let reports = c.in_ok-reports.reports.items in
    let at = at_index reports r r h.0 h.1 in
    let below = at.0 in
    let long = c.in_ok-reports.ensures.len in
    let given = (c.in_ok-reports.ensures.each h.0 r (omega arith)).1 in
    subst (IsReportOf c.args.rows.now) at.1 (given.call).met
