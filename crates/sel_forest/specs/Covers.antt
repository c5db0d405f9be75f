-- What is to be answered of a tree, and of a list of rule numbers.
use Rattle.std.specs.Prelude.{◌≡◌, ℕ, List, Option, Some, None}
use Rattle.sel_grammar.specs.declared.grammar.Grammar.{Grammar}
use Rattle.sel_grammar.specs.Costs.{Cost}
use Rattle.sel_grammar.specs.PlainTrees.{PlainTree}
use Rattle.sel_grammar.specs.Derivations.{Derivation, Derives, cost, list}
use Rattle.sel_grammar.specs.Best.{IsBest, HasNone}
use Rattle.sel_forest.specs.declared.forest.Cover.{Cover}

-- the cost and the list of the tree's best derivation from the start symbol
pub record IsBestCover (g : Grammar) (t : PlainTree) (cover : Cover) : Type 0 where
  pub best : Derivation
  pub is_best : IsBest g best g.start t
  pub cost_is : cover.cost ≡ cost g best
  pub rules_are : cover.rules ≡ list best

-- the best cover, or none where nothing derives the tree from the start symbol
abbrev pub IsAnswer : Grammar → PlainTree → Option Cover → Type 0
IsAnswer g t None = HasNone g g.start t
IsAnswer g t (Some cover) = IsBestCover g t cover

-- a derivation of the tree from the start symbol has this list and this cost
pub record IsCover (g : Grammar) (t : PlainTree) (rules : List ℕ) (c : Cost) : Type 0 where
  pub derivation : Derivation
  pub derives : Derives g derivation g.start t
  pub list_is : list derivation ≡ rules
  pub cost_is : c ≡ cost g derivation

-- the cost of the derivation from the start symbol with this list, or none where no derivation has it
abbrev pub IsChecked : Grammar → PlainTree → List ℕ → Option Cost → Type 0
IsChecked g t rules None = (d : Derivation) → Derives g d g.start t → list d ≡ rules → ⊥
IsChecked g t rules (Some c) = IsCover g t rules c
