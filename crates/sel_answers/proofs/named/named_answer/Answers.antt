use Rattle.sel_answers.proofs.Naming.{answered_is_best}
use Rattle.sel_answers.proofs.named.named_answer.Goals as goal

pub best_named-requires-clause-best : goal.best_named-requires-clause-best
best_named-requires-clause-best c = answered_is_best c.args.grammar.now c.args.tree.now c.args.answer.now c.in-Cover.cover c.in-Cover.is c.requires.answer
