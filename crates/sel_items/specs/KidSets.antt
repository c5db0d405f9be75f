-- The item sets of a node's kids, as a call takes them.
use Rattle.std.specs.Prelude.{◌≡◌, Option, Some, None, List, [], ◌∷◌}
use Rattle.sel_normal.specs.NormalForms.{NormalForm}
use Rattle.sel_items.specs.declared.items.Items.{Items}
use Rattle.sel_items.specs.CostBounds.{IsKidSet}

-- those that there are
abbrev pub kid_sets : Option Items → Option Items → List Items
kid_sets None b = []
kid_sets (Some i) None = i ∷ []
kid_sets (Some i) (Some j) = i ∷ j ∷ []

-- a kid's item set, where there is one
abbrev pub IsKid : NormalForm → Option Items → Type 0
IsKid normal o = (i : Items) → o ≡ Some i → IsKidSet normal i

-- a second kid stands beside a first
abbrev pub AreKidsInOrder : Option Items → Option Items → Type 0
AreKidsInOrder None (Some j) = ⊥
AreKidsInOrder _ _ = Unit {0}
