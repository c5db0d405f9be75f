use Rattle.std.proofs.Common.{sym, subst, arith}
use Rattle.sel_rows.specs.Tables.{ArePartsOf}
use Rattle.sel_rows_threads.proofs.Gathered.{last_report, front_reports, more_parts, more_seats, long_by_one}
use Rattle.sel_rows_threads.proofs.crew.gather.Goals as goal

pub loop-report-preserved : goal.loop-report-preserved
loop-report-preserved c =
    let i = c.loop-report.invariant in
    let rows = c.args.rows.now in
    let all = c.loop-report.reports.items in
    let front = c.pop.new.self.items in
    let report = c.in-Some.report in
    let is = c.in-Some.ensures.items in
    let parts = c.loop-report.parts.items in
    let more = c.push.new.self.items in
    let parts_are = c.in_ok-push.ensures.items in
    let one = last_report rows all front report is i.reports in
    let seats = more_seats more parts report.part parts_are in
    let long = long_by_one all front report is in
    let sum = i.seats in
    let own = one.1 in
    record {
      reports = front_reports rows all front report is i.reports;
      parts = more_parts rows more parts report.part parts_are i.parts one.0;
      seats = omega arith;
    }

pub returns-clause-of : goal.returns-clause-of
returns-clause-of c = subst (ArePartsOf c.args.rows.now) (sym c.from_vec.ensures) c.loop-report.invariant.parts
