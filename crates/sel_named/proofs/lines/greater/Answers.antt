use Rattle.sel_named.proofs.Cuts.{text_greater}
use Rattle.sel_named.proofs.lines.greater.Goals as goal

pub returns-in-Text : goal.returns-in-Text
returns-in-Text c = text_greater _ _ c.args.most c.in-Text.is
