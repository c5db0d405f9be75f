use Rattle.std.proofs.Common.{Some, refl, ap, subst, sym}
use Rattle.sel_words.specs.Names.{task_for}
use Rattle.sel_words.specs.Words.{forest_name, certificate_name}
use Rattle.sel_cli.specs.Parts.{DoesJobOver}
use Rattle.sel_cli.specs.Reporting.{nothing_reported}
use Rattle.sel_cli.proofs.Endings.{fetch_forest_stops}
use Rattle.sel_cli.proofs.Serving.{over_serves, stop_serves, serves_as}
use Rattle.sel_cli.proofs.jobs.over_forest.serve_forest.Goals as goal

pub returns-in-Ok : goal.returns-in-Ok
returns-in-Ok g c =
    let task = task_for c.args.command in
    let grammar = c.args.accepted.now.grammar in
    let text = c.in-Ok.text.items in
    let status = c.serve_text.result.status in
    let report = c.serve_text.result.report in
    record {
      served = serves_as (Some task) _ _ _ _ c.args.name.now _ status _ report _ c.of.ensures.name c.of.ensures.status c.of.ensures.report
          (over_serves c.in-Ok.text task grammar c.args.name.now text _ _ _ _ status report c.requires.grammar (ap forest_name c.requires.job) (ap certificate_name c.requires.job) c.in-Ok.ensures.text c.in-Ok.ensures.within (c.in-Ok.ensures.reads (Some task))
          (subst (λ job. DoesJobOver c.args.command.settings job grammar text (g.K.Sink.told c.args.out.now) (g.K.Sink.told c.serve_text.new.out) status report) (sym c.requires.job) (c.serve_text.ensures c.args.name.now)));
    }

pub returns-in-Err : goal.returns-in-Err
returns-in-Err g c =
    let task = task_for c.args.command in
    record {
      served = serves_as (Some task) _ _ _ _ c.args.name.now _ c.in-Err.status _ nothing_reported _ c.without.ensures.name c.without.ensures.status c.without.ensures.report
          (stop_serves (Some task) (Some c.args.name.now) c.args.name.now _ _ _ c.in-Err.status nothing_reported refl
          (fetch_forest_stops task _ _ c.args.accepted.now.grammar c.args.name.now c.in-Err.status c.requires.grammar (ap forest_name c.requires.job) c.in-Err.ensures.refused) (c.in-Err.ensures.reads (Some task)));
    }
