-- No line has begun.
use Rattle.std.proofs.Common.{false, ◌++◌, ap, ◌∙◌}
use Rattle.sel_named.specs.Cutting.{lines_behind}
use Rattle.sel_named.proofs.Cuts.{lines_whole}
use Rattle.sel_named.proofs.lines.LineCutter.new.Goals as goal

pub returns : goal.returns
returns c = λ text.
    ap (λ xs. xs ++ lines_behind false c.new-2.result.items text) c.new.ensures.items ∙ ap (λ ts. lines_behind false ts text) c.new-2.ensures.items ∙ lines_whole text
