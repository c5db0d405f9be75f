-- Laws of the definitions.
use Rattle.std.specs.Prelude.{◌≡◌, ℕ, List, ◌⊎◌}
use Rattle.sel_grammar.specs.declared.grammar.Grammar.{Grammar}
use Rattle.sel_grammar.specs.Limits.{IsWithinLimits}
use Rattle.sel_grammar.specs.PlainTrees.{PlainTree}
use Rattle.sel_forest.specs.declared.forest.Tree.{Tree}
use Rattle.sel_forest.specs.declared.forest.Forest.{Forest}
use Rattle.sel_forest.specs.declared.refusal.ForestFault.{ForestFault}
use Rattle.sel_forest.specs.Postorder.{IsPostorderOf}
use Rattle.sel_forest.specs.ForestText.{SpellsForest, IsForestFault}
use Rattle.sel_forest.specs.Printed.{HasNames, IsPrinted}
use Rattle.sel_forest.specs.Valid.{IsValidForest}

-- the nodes of a tree are those of one plain tree
abbrev pub PlainTreeIsOne : Type 0
PlainTreeIsOne = (tree : Tree) (t u : PlainTree) → IsPostorderOf tree t → IsPostorderOf tree u → t ≡ u

-- a text spells one forest
abbrev pub ForestIsOne : Type 0
ForestIsOne = (g : Grammar) (bytes : List ℕ) (f h : Forest) → SpellsForest g bytes f → SpellsForest g bytes h → f ≡ h

-- a text has one first fault
abbrev pub ForestFaultIsOne : Type 0
ForestFaultIsOne = (g : Grammar) (bytes : List ℕ) (f h : ForestFault) → IsForestFault g bytes f → IsForestFault g bytes h → f ≡ h

-- a text that spells a forest has no fault
abbrev pub NotForestAndFault : Type 0
NotForestAndFault = (g : Grammar) (bytes : List ℕ) (forest : Forest) (fault : ForestFault) → SpellsForest g bytes forest → IsForestFault g bytes fault → ⊥

-- under a grammar within the limits a text spells a forest or has a fault
abbrev pub SomeForestOrFault : Type 0
SomeForestOrFault = (g : Grammar) (bytes : List ℕ) → IsWithinLimits g → ((forest : Forest) × SpellsForest g bytes forest) ⊎ ((fault : ForestFault) × IsForestFault g bytes fault)

-- each forest that a text spells is valid
abbrev pub SpelledIsValid : Type 0
SpelledIsValid = (g : Grammar) (bytes : List ℕ) (forest : Forest) → SpellsForest g bytes forest → IsValidForest g forest

-- the printed text of a valid forest spells that forest, where the operators have names that differ
abbrev pub PrintedIsSpelled : Type 0
PrintedIsSpelled = (g : Grammar) (forest : Forest) (text : List ℕ) → HasNames g → IsValidForest g forest → IsPrinted g forest text → SpellsForest g text forest
