use Rattle.std.proofs.Common.{refl}
use Rattle.sel_c.specs.Answers.{of_tree, of_none}
use Rattle.sel_c.proofs.line.line_text.Goals as goal

pub returns-in-Ok-clause-told : goal.returns-in-Ok-clause-told
returns-in-Ok-clause-told c = of_tree c.in-Ok.tree c.in-Ok.ensures.spelled c.tell_text.ensures.told

pub returns-in-Err-clause-told : goal.returns-in-Err-clause-told
returns-in-Err-clause-told c = of_none c.in-Err.why c.in-Err.ensures.refused (c.tell_unread.ensures, refl)
