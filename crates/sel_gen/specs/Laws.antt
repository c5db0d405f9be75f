-- Laws of the definitions.
use Rattle.std.specs.Prelude.{◌≡◌, ℕ}
use Rattle.sel_grammar.specs.declared.grammar.Grammar.{Grammar}
use Rattle.sel_grammar.specs.Limits.{IsWithinLimits}
use Rattle.sel_forest.specs.declared.forest.Forest.{Forest}
use Rattle.sel_gen.specs.Made.{IsMadeForest}

-- a grammar, a seed, a count of trees and their size make one forest at most
abbrev pub MadeIsOne : Type 0
MadeIsOne = (g : Grammar) (seed count budget : ℕ) (forest other : Forest) → IsMadeForest g seed count budget forest → IsMadeForest g seed count budget other → forest ≡ other

-- under a grammar within the limits a seed, a count of trees and their size make a forest
abbrev pub MadeExists : Type 0
MadeExists = (g : Grammar) (seed count budget : ℕ) → IsWithinLimits g → (forest : Forest) × IsMadeForest g seed count budget forest
