-- Bytes stay as they are.
use Rattle.std.proofs.Common.{◌++◌, map, ap, ◌∙◌}
use Rattle.sel_named.proofs.NamePutting.{text_put}
use Rattle.sel_named.proofs.names.put_piece.Goals as goal

pub returns-in_ok-extend_from_slice-in-Text : goal.returns-in_ok-extend_from_slice-in-Text
returns-in_ok-extend_from_slice-in-Text c =
    c.in_ok-extend_from_slice-in-Text.ensures.items ∙ ap (λ x. c.args.bytes.now.items ++ x) c.as_slice.ensures
    ∙ text_put (map (λ name. name.now) c.args.names.now) c.args.registers.now _ _ _ c.in-Text.is
