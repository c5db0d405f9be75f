-- Guesses at the operators' numbers.
use Rattle.std.specs.Prelude.{◌≡◌, ℕ, List, length, Some, slice_get, All}
use Rattle.sel_grammar.specs.declared.grammar.Grammar.{Grammar}
use Rattle.sel_grammar.specs.declared.grammar.Operator.{Operator}
use Rattle.sel_forest.specs.declared.guess.TheConstants.{PLACES}
use Rattle.sel_forest.specs.TreeText.{operator_number}

abbrev pub guess_places : ℕ
guess_places = PLACES

-- the operator with this number, if there is one, is the first with its name
abbrev pub IsGuess : Grammar → ℕ → Type 0
IsGuess g k = (operator : Operator) → slice_get g.operators k ≡ Some operator → operator_number g operator.name ≡ k

pub record AreGuesses (g : Grammar) (guesses : List ℕ) : Type 0 where
  pub count : length guesses ≡ guess_places
  pub each : All (IsGuess g) guesses
