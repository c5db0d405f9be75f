use Rattle.std.proofs.Common.{◌≡◌, Some, ap, refl, subst}
use Rattle.sel_words.specs.Names.{task_for}
use Rattle.sel_words.specs.Words.{certificate_name}
use Rattle.sel_cli.specs.Parts.{ChecksOver}
use Rattle.sel_cli.specs.Reporting.{nothing_reported}
use Rattle.sel_cli.proofs.Endings.{fetch_certificate_stops}
use Rattle.sel_cli.proofs.Serving.{check_serves, stop_serves, serves_as}
use Rattle.sel_cli.proofs.jobs.check.serve_certificate.Goals as goal

pub returns-in-Ok : goal.returns-in-Ok
returns-in-Ok g c =
    let task = task_for c.args.command in
    let grammar = c.args.accepted.now.grammar in
    let forest = c.args.forest.now in
    let text = c.in-Ok.text.items in
    let status = c.check_text-status.result in
    record {
      served = serves_as (Some task) _ _ _ _ c.args.name.now _ status _ nothing_reported _ c.without.ensures.name c.without.ensures.status c.without.ensures.report
          (check_serves c.in-Ok.text task grammar forest (c.requires.job).0 c.args.name.now text _ _ _ _ status nothing_reported refl c.requires.forest (c.requires.job).1 c.in-Ok.ensures.text c.in-Ok.ensures.within
          (c.in-Ok.ensures.reads (Some task))
          (subst (λ bytes. ChecksOver grammar forest bytes (g.K.Sink.told c.args.out.now) (g.K.Sink.told c.check_text-status.new.out) status) c.deref.ensures.value c.check_text-status.ensures));
    }

pub returns-in-Err : goal.returns-in-Err
returns-in-Err g c =
    let task = task_for c.args.command in
    record {
      served = serves_as (Some task) _ _ _ _ c.args.name.now _ c.in-Err.status _ nothing_reported _ c.without-in-Err.ensures.name c.without-in-Err.ensures.status c.without-in-Err.ensures.report
          (stop_serves (Some task) (Some c.args.name.now) c.args.name.now _ _ _ c.in-Err.status nothing_reported refl
          (fetch_certificate_stops task _ _ c.args.accepted.now.grammar c.args.forest.now c.args.name.now c.in-Err.status c.requires.forest (ap certificate_name (c.requires.job).1) c.in-Err.ensures.refused) (c.in-Err.ensures.reads (Some task)));
    }
