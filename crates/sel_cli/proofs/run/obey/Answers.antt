use Rattle.std.proofs.Common.{map, option_map, string_bytes, [], refl, sym, ap, ◌∙◌}
use Rattle.sel_words.specs.Names.{task_for}
use Rattle.sel_words.proofs.Bounded.{command_bounded}
use Rattle.sel_cli.specs.declared.status.Status.TheVariants.{Usage, NoMemory}
use Rattle.sel_cli.specs.Reporting.{nothing_reported}
use Rattle.sel_cli.proofs.Serving.{unasked_serves, serves_as}
use Rattle.sel_cli.proofs.run.obey.Goals as goal

pub serve-requires-clause-settings : goal.serve-requires-clause-settings
serve-requires-clause-settings g c = λ κs lives.
    command_bounded (map string_bytes c.args.words.now) (task_for c.in-Ok-Some.command) (sym c.in-Ok-Some.ensures.exact ∙ ap (option_map task_for) c.in-Ok-Some.field-0-is)

pub returns-in-Ok-None-clause-served : goal.returns-in-Ok-None-clause-served
returns-in-Ok-None-clause-served g c =
    serves_as _ _ _ _ _ [] _ Usage _ nothing_reported _ c.without.ensures.name c.without.ensures.status c.without.ensures.report
    (unasked_serves _ [] _ _ Usage nothing_reported refl (sym c.in-Ok-None.ensures.exact ∙ ap (option_map task_for) c.in-Ok-None.field-0-is) tt)

pub returns-in-Err-clause-served : goal.returns-in-Err-clause-served
returns-in-Err-clause-served g c =
    serves_as _ _ _ _ _ [] _ NoMemory _ nothing_reported _ c.without-in-Err.ensures.name c.without-in-Err.ensures.status c.without-in-Err.ensures.report (unasked_serves _ [] _ _ NoMemory nothing_reported refl tt tt)
