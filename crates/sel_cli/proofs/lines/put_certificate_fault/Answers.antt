use Rattle.std.proofs.Common.{ap, ◌∙◌, ◌++◌}
use Rattle.sel_cli.specs.Lines.{line_text, kind_text, certificate_kind_name}
use Rattle.sel_cli.proofs.Joining.{four_pieces}
use Rattle.sel_cli.proofs.lines.put_certificate_fault.Goals as goal

pub returns : goal.returns
returns c =
    four_pieces c.args.text.now.items c.put.new.text.items c.put_line_number.new.text.items c.put-2.new.text.items c.put_kind.new.text.items
    c.args.name.now (line_text c.args.fault.line) _ (kind_text c.args.fault.kind (certificate_kind_name c.args.fault.kind))
    c.in_ok-put.ensures c.in_ok-put_line_number.ensures c.in_ok-put-2.ensures
    (c.in_ok-put_kind.ensures ∙ ap (λ w. c.put-2.new.text.items ++ kind_text c.args.fault.kind w) c.certificate_kind_name.ensures)
