use Rattle.std.proofs.Common.{ap, ◌∙◌, ◌++◌}
use Rattle.sel_cli.specs.Lines.{place_text, kind_text, forest_kind_name}
use Rattle.sel_cli.proofs.Joining.{four_pieces}
use Rattle.sel_cli.proofs.lines.put_forest_fault.Goals as goal

pub returns : goal.returns
returns c =
    four_pieces c.args.text.now.items c.put.new.text.items c.put_place.new.text.items c.put-2.new.text.items c.put_kind.new.text.items
    c.args.name.now (place_text c.args.fault.line c.args.fault.column) _ (kind_text c.args.fault.kind (forest_kind_name c.args.fault.kind))
    c.in_ok-put.ensures c.in_ok-put_place.ensures c.in_ok-put-2.ensures
    (c.in_ok-put_kind.ensures ∙ ap (λ w. c.put-2.new.text.items ++ kind_text c.args.fault.kind w) c.forest_kind_name.ensures)
