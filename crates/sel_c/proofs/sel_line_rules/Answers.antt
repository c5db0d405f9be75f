use Rattle.std.proofs.Common.{Some, sym, ap, ◌∙◌}
use Rattle.sel_work.specs.declared.answer.Goal.TheVariants as goals
use Rattle.sel_c.specs.Answers.{TellsRules}
use Rattle.sel_c.proofs.Telling.{held_line}
use Rattle.sel_c.proofs.sel_line_rules.Goals as goal

pub returns-in-Some-clause-told : goal.returns-in-Some-clause-told
returns-in-Some-clause-told c = let told = c.line_rules-told in
    held_line c.args.sel.now.held.table c.deref_mut.result.now goals.Cover c.args.line.now c.args.rules.now told.new.out told.result (TellsRules c.args.rules.now told.new.out told.result)
    (c.in-Some.ensures.taken ∙ ap Some (sym c.deref_mut.ensures.value)) told.ensures.told
