use Rattle.sel_work.proofs.BestAnswers.{best_is_covered, text_is_best}
use Rattle.sel_work.proofs.tree.text_answer.Goals as goal

pub expand-requires-clause-covered : goal.expand-requires-clause-covered
expand-requires-clause-covered c = best_is_covered c.args.grammar.now c.args.tree.now c.args.cover.now c.requires.best

pub returns-in-Text : goal.returns-in-Text
returns-in-Text c = λ t spelled.
    text_is_best c.args.grammar.now c.args.tree.now c.args.cover.now c.in-Text.text t spelled (c.requires.best t spelled) (c.in_ok-text.ensures.text c.in-Text.text c.in-Text.is)
