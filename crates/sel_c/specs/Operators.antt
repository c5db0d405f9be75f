-- The number of an operator, by its name.
use Rattle.std.specs.Prelude.{◌≡◌, ℕ, List, slice_get, Option, Some, None}
use Rattle.sel_grammar.specs.declared.grammar.Operator.{Operator}
use Rattle.sel_c.specs.declared.accepted.Accepted.{Accepted}

-- the operator with this number has the name
abbrev pub HasNumber : List Operator → List ℕ → ℕ → Type 0
HasNumber operators name number = (operator : Operator) × (slice_get operators number ≡ Some operator) × (operator.name ≡ name)

-- it is that, or no operator has the name
abbrev pub IsNumberAmong : List Operator → List ℕ → Option ℕ → Type 0
IsNumberAmong operators name None = (number : ℕ) → HasNumber operators name number → ⊥
IsNumberAmong operators name (Some number) = HasNumber operators name number

-- the greatest number of 32 bits, for none
abbrev pub or_greatest : Option ℕ → ℕ
or_greatest None = 4294967295
or_greatest (Some number) = number

-- What is told of a name by what a handle holds: a number of an operator of its grammar, or the greatest one where none has the name.
abbrev pub IsOperatorNumber : Option Accepted → List ℕ → ℕ → Type 0
IsOperatorNumber None name told = told ≡ 4294967295
IsOperatorNumber (Some a) name told = (number : Option ℕ) × IsNumberAmong a.grammar.operators name number × (told ≡ or_greatest number)
