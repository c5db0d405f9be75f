use Rattle.std.proofs.Common.{Some, sym, ap, ◌∙◌}
use Rattle.sel_work.specs.declared.answer.Goal.TheVariants as goals
use Rattle.sel_c.specs.Answers.{TellsText}
use Rattle.sel_c.proofs.Telling.{held_line}
use Rattle.sel_c.proofs.sel_line_text.Goals as goal

pub returns-in-Some-clause-told : goal.returns-in-Some-clause-told
returns-in-Some-clause-told c = let told = c.line_text-told in
    held_line c.args.sel.now.held.table c.deref_mut.result.now goals.Text c.args.line.now c.args.out.now told.new.out told.result (TellsText c.args.out.now told.new.out told.result)
    (c.in-Some.ensures.taken ∙ ap Some (sym c.deref_mut.ensures.value)) told.ensures.told
