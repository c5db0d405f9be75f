use Rattle.sel_grammar.proofs.Existence.{best_exists}
use Rattle.sel_grammar.proofs.laws.best_exists.Goals as goal

pub returns : goal.returns
returns c = best_exists
