use Rattle.std.proofs.Common.{sym, ◌∙◌}
use Rattle.sel_rows.specs.Tables.{id_of, setting_of}
use Rattle.sel_rows.proofs.Joins.{last_of}
use Rattle.sel_rows_threads.proofs.speed.measure.Goals as goal

pub new-pass-requires-clause-of : goal.new-pass-requires-clause-of
new-pass-requires-clause-of g c =
    let rows = c.in_ok-rows.rows in
    let is = sym c.into_vec-parts.ensures ∙ c.in-Some.ensures.items in
    last_of (id_of rows) (setting_of rows) c.in_ok-rows.parts c.pop.new.self.items c.in-Some.part is c.in_ok-rows.ensures.of
