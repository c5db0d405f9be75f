use Rattle.std.proofs.Common.{◌+◌, ◌∷◌, take, drop, map, subst, sym}
use Rattle.sel_work.specs.declared.answer.Goal.TheVariants as goals
use Rattle.sel_answers.specs.Output.{AreAnswers, AreNamedAnswers}
use Rattle.sel_answers.proofs.Naming.{next_answer, one_more}
use Rattle.sel_answers.proofs.named.named_answers.Goals as goal

pub trees-preserved : goal.trees-preserved
trees-preserved c =
    let g = c.args.grammar.now in
    let trees = c.args.trees.now in
    let i = c.trees.tree-index in
    let tree = c.tree-item.result in
    let names = map (λ name. name.now) c.args.names.now in
    let behind = subst (λ l. AreAnswers g goals.Cover (drop i trees) l) c.in-Some.ensures.cases.0 c.trees.invariant.behind in
    record {
      behind = (next_answer g trees i tree c.trees-test.true c.tree-item.is c.in-Some.answer.now c.in-Some.behind.now behind).1;
      so_far = subst (λ l. AreNamedAnswers g names (take (i + 1) trees) l) (sym c.in_ok-push.ensures.items)
          (one_more g trees i tree c.trees-test.true c.tree-item.is names c.trees.named.items c.in_ok-next.next c.trees.invariant.so_far c.in_ok-next.ensures);
    }
