use Rattle.std.proofs.Common.{◌∙◌}
use Rattle.sel_crew.proofs.Trees.{still_seated, grown, answered_is}
use Rattle.sel_crew.proofs.tree.answer_by_part.Goals as goal

pub returns-clause-part : goal.returns-clause-part
returns-clause-part g c = let t = c.answer_tree-answered in
    still_seated c.args.task.now.rows.now c.args.part c.part.result t.new.automaton (t.ensures.fixed ∙ c.new-pass.ensures.standing) c.part.ensures.of c.part.ensures.part c.requires.part.one_seat

pub returns-clause-grows : goal.returns-clause-grows
returns-clause-grows g c = let t = c.answer_tree-answered in
    grown c.args.task.now.grammar.now c.args.tree.now c.args.part c.part.result c.new-pass.result t.new.automaton c.new-pass.ensures.part c.part.ensures.part t.ensures.keeps t.ensures.adds

pub returns-clause-answered : goal.returns-clause-answered
returns-clause-answered g c = let t = c.answer_tree-answered in
    answered_is c.args.task.now.grammar.now c.args.task.now.goal c.args.tree.now c.part.result t.new.automaton t.result c.requires.tree c.part.ensures.part t.ensures.answer t.ensures.plain_nodes t.ensures.tabled
