use Rattle.sel_grammar.proofs.Short.{best_is_short}
use Rattle.sel_grammar.proofs.laws.best_is_short.Goals as goal

pub returns : goal.returns
returns c = best_is_short
