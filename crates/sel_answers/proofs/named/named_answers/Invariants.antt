use Rattle.std.proofs.Common.{drop, take, map}
use Rattle.sel_work.specs.declared.answer.Goal.TheVariants as goals
use Rattle.sel_answers.specs.Output.{AreAnswers, AreNamedAnswers}
use Rattle.sel_answers.proofs.named.named_answers.Given as goal

abbrev pub invariant-trees : goal.invariant-trees
invariant-trees l = record {
  behind : AreAnswers l.grammar goals.Cover (drop l.tree-index l.trees) l.rest;
  so_far : AreNamedAnswers l.grammar (map (λ name. name.now) l.names) (take l.tree-index l.trees) l.named.items;
}
