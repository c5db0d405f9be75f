-- A run of bytes is copied.
use Rattle.sel_expand.proofs.Sheets.{copied}
use Rattle.sel_expand.proofs.sheet.VecU8Sheet.put_copy.Goals as goal

pub returns-in_ok-extend_from_within : goal.returns-in_ok-extend_from_within
returns-in_ok-extend_from_within c = λ order inside. copied c.args.self.now.items c.extend_from_within.new.self.items c.args.span.start c.args.span.end c.in_ok-extend_from_within.ensures.items
