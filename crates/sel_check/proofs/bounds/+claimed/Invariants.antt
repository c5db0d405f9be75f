use Rattle.sel_grammar.specs.Lawful.{names_of}
use Rattle.sel_check.proofs.bounds.+claimed.Given as goal

abbrev pub decreases-claimed : goal.decreases-claimed
decreases-claimed l = names_of l.pattern.now
