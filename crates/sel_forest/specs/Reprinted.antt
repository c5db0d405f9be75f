-- What a forest's text is in print.
use Rattle.std.specs.Prelude.{ℕ, List}
use Rattle.sel_grammar.specs.declared.grammar.Grammar.{Grammar}
use Rattle.sel_forest.specs.declared.forest.Forest.{Forest}
use Rattle.sel_forest.specs.ForestText.{SpellsForest}
use Rattle.sel_forest.specs.Printed.{IsPrinted}

-- the bytes spell a forest, and the text is its printed one
pub record IsReprinted (g : Grammar) (bytes text : List ℕ) : Type 0 where
  pub forest : Forest
  pub spelled : SpellsForest g bytes forest
  pub printed : IsPrinted g forest text

-- whatever forest the bytes spell, the text spells it too
abbrev pub SpellsTheSame : Grammar → List ℕ → List ℕ → Type 0
SpellsTheSame g bytes text = (forest : Forest) → SpellsForest g bytes forest → SpellsForest g text forest
