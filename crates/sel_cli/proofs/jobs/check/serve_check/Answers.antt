use Rattle.std.proofs.Common.{◌≡◌, Some, ap, refl}
use Rattle.sel_words.specs.Names.{task_for}
use Rattle.sel_words.specs.Words.{forest_name}
use Rattle.sel_cli.specs.Reporting.{nothing_reported}
use Rattle.sel_cli.proofs.Endings.{fetch_forest_stops}
use Rattle.sel_cli.proofs.Serving.{accepts_later, refused_serves, stop_serves, then_serves, serves_as}
use Rattle.sel_cli.proofs.jobs.check.serve_check.Goals as goal

pub returns-in-Err : goal.returns-in-Err
returns-in-Err g c =
    let task = task_for c.args.command in
    record {
      served = serves_as (Some task) _ _ _ _ c.args.name.now _ c.in-Err.status _ nothing_reported _ c.without.ensures.name c.without.ensures.status c.without.ensures.report
          (stop_serves (Some task) (Some c.args.name.now) c.args.name.now _ _ _ c.in-Err.status nothing_reported refl
          (fetch_forest_stops task _ _ c.args.accepted.now.grammar c.args.name.now c.in-Err.status c.requires.grammar (ap forest_name c.requires.job) c.in-Err.ensures.refused) (c.in-Err.ensures.reads (Some task)));
    }

pub serve_certificate-requires-clause-forest : goal.serve_certificate-requires-clause-forest
serve_certificate-requires-clause-forest g c =
    let task = task_for c.args.command in
    accepts_later (Some task) task c.args.accepted.now.grammar c.in-Ok-forest_in.forest (g.S.Shelf.told c.args.shelf.now) (g.S.Shelf.told c.fetch.new.shelf) (c.in-Ok.ensures.reads (Some task)).unchanged
    (record {
      name = c.args.name.now;
      text = c.in-Ok.text.items;
      has = record { accepts_grammar = c.requires.grammar; is_named = ap forest_name c.requires.job; is_text = c.in-Ok.ensures.text };
      within = c.in-Ok.ensures.within;
      spelled = c.in-Ok-forest_in.ensures.spelled;
    })

pub returns-in-Ok-forest_in : goal.returns-in-Ok-forest_in
returns-in-Ok-forest_in g c =
    let task = task_for c.args.command in
    record {
      served = then_serves c.in-Ok.text (Some task) (Some c.args.name.now) _ _ _ _ _ _ c.serve_certificate.result.status c.serve_certificate.result.report (c.in-Ok.ensures.reads (Some task)) c.serve_certificate.ensures.served;
    }

pub returns-in-Err-forest_in : goal.returns-in-Err-forest_in
returns-in-Err-forest_in g c =
    let task = task_for c.args.command in
    record {
      served = serves_as (Some task) _ _ _ _ c.args.name.now _ c.in-Err-forest_in.status _ nothing_reported _ c.without-in-Err-forest_in.ensures.name c.without-in-Err-forest_in.ensures.status c.without-in-Err-forest_in.ensures.report
          (refused_serves c.in-Ok.text task c.args.accepted.now.grammar c.args.name.now c.in-Ok.text.items _ _ _ c.in-Err-forest_in.status nothing_reported refl c.requires.grammar (ap forest_name c.requires.job)
          c.in-Ok.ensures.text c.in-Ok.ensures.within (c.in-Ok.ensures.reads (Some task)) c.in-Err-forest_in.ensures.refused);
    }
