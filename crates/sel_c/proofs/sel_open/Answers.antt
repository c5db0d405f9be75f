use Rattle.std.proofs.Common.{sym, ◌∙◌}
use Rattle.sel_c.specs.Openings.{opened, refused}
use Rattle.sel_c.proofs.Telling.{opening, none_held}
use Rattle.sel_c.proofs.sel_open.Goals as goal

pub returns-in-Ok-clause-told : goal.returns-in-Ok-clause-told
returns-in-Ok-clause-told c = opening c.args.text.now _ _ _ (sym c.args.sel.now.told ∙ c.if-sel.false) (opened c.in-Ok.table.value c.put.ensures c.in-Ok.ensures.new c.of_code-in-Ok.ensures)

pub returns-in-Err-clause-told : goal.returns-in-Err-clause-told
returns-in-Err-clause-told c = let closed = sym c.args.sel.now.told ∙ c.if-sel.false in
    opening c.args.text.now _ _ _ closed (refused c.in-Err.why c.in-Err.ensures.refused (none_held _ closed) c.tell_unopened.ensures)
