use Rattle.std.proofs.Common.{refl, sym, ◌∙◌, subst, arith}
use Rattle.std.proofs.lemmas.Option.{slice_get_read}
use Rattle.sel_ahead.proofs.Answered.{IsOver, tree_ready, answers_more}
use Rattle.sel_ahead.proofs.answers.answer_counted.Goals as goal

pub returns-in_err-answered-clause-no_step : goal.returns-in_err-answered-clause-no_step
returns-in_err-answered-clause-no_step g c =
    let at = slice_get_read c.args.trees.now _ c.loop-tree.tree-index c.tree-item.result refl c.loop-tree-test.true c.tree-item.is in
    (c.answer_tree.ensures.hit
    (tree_ready c.trees_are_ready.ensures c.args.grammar.now c.args.normal.now c.args.table.now.states c.args.table.now.numbers c.loop-tree.automaton c.args.trees.now c.loop-tree.tree-index c.tree-item.result at c.loop-tree.invariant.over c.requires.form c.requires.lawful c.requires.trees)).0
    ∙ c.loop-tree.invariant.no_step

pub returns-in_err-push-clause-no_step : goal.returns-in_err-push-clause-no_step
returns-in_err-push-clause-no_step g c =
    let at = slice_get_read c.args.trees.now _ c.loop-tree.tree-index c.tree-item.result refl c.loop-tree-test.true c.tree-item.is in
    (c.answer_tree.ensures.hit
    (tree_ready c.trees_are_ready.ensures c.args.grammar.now c.args.normal.now c.args.table.now.states c.args.table.now.numbers c.loop-tree.automaton c.args.trees.now c.loop-tree.tree-index c.tree-item.result at c.loop-tree.invariant.over c.requires.form c.requires.lawful c.requires.trees)).0
    ∙ c.loop-tree.invariant.no_step

pub loop-tree-preserved : goal.loop-tree-preserved
loop-tree-preserved g c =
    let at = slice_get_read c.args.trees.now _ c.loop-tree.tree-index c.tree-item.result refl c.loop-tree-test.true c.tree-item.is in
    record {
      over = subst (IsOver c.args.normal.now c.args.table.now.states c.args.table.now.numbers) (sym c.answer_tree.ensures.fixed) c.loop-tree.invariant.over;
      answers = answers_more c.args.grammar.now c.args.goal c.args.trees.now c.loop-tree.tree-index c.loop-tree.answers c.push.new.self c.tree-item.result c.in_ok-answered.answered.answer at c.loop-tree.invariant.answers c.in_ok-answered.ensures.answer c.in_ok-push.ensures.ok;
      no_step = (c.answer_tree.ensures.hit
          (tree_ready c.trees_are_ready.ensures c.args.grammar.now c.args.normal.now c.args.table.now.states c.args.table.now.numbers c.loop-tree.automaton c.args.trees.now c.loop-tree.tree-index c.tree-item.result at c.loop-tree.invariant.over c.requires.form c.requires.lawful c.requires.trees)).0
          ∙ c.loop-tree.invariant.no_step;
    }
