use Rattle.sel_grammar.proofs.Short.{best_is_small}
use Rattle.sel_grammar.proofs.laws.best_is_small.Goals as goal

pub returns : goal.returns
returns c = best_is_small
