use Rattle.sel_forest.specs.Guesses.{AreGuesses}
use Rattle.sel_forest.proofs.guess.guesses_of.Given as goal

abbrev pub invariant-operators : goal.invariant-operators
invariant-operators l = AreGuesses l.grammar l.guesses.items
