-- Labels of nodes, and of their kids.
use Rattle.std.specs.Prelude.{◌≡◌, ℕ, Bool, true, false, Option, Some, None, List, [], ◌∷◌}
use Rattle.sel_range.specs.Classes.{Occurs}
use Rattle.sel_normal.specs.declared.normal.Body.TheVariants.{Operator}
use Rattle.sel_normal.specs.declared.normal.NormalRule.{NormalRule}
use Rattle.sel_normal.specs.NormalForms.{NormalForm, normal_at}
use Rattle.sel_items.specs.declared.items.Items.{Items}
use Rattle.sel_items.specs.declared.label.Label.{Label}
use Rattle.sel_items.specs.declared.label.Label.TheVariants.{Numbered, Plain}
use Rattle.sel_items.specs.CostBounds.{IsKidSet}

abbrev pub IsPlain : Label → Type 0
IsPlain (Numbered n) = ⊥
IsPlain (Plain p) = Unit {0}

-- whether the label is plain
abbrev pub is_plain : Label → Bool
is_plain (Numbered n) = false
is_plain (Plain p) = true

abbrev pub IsNumbered : Label → Type 0
IsNumbered (Numbered n) = Unit {0}
IsNumbered (Plain p) = ⊥

abbrev pub IsKidNumbered : Option Label → Type 0
IsKidNumbered None = Unit {0}
IsKidNumbered (Some l) = IsNumbered l

-- each kid that there is has a numbered label
abbrev pub AreNumbered : Option Label → Option Label → Type 0
AreNumbered a b = IsKidNumbered a × IsKidNumbered b

-- the kids' labels mean these item sets. One kid is the first
abbrev pub KidsAre : (Label → Items → Type 0) → Option Label → Option Label → List Items → Type 0
KidsAre means None None [] = Unit {0}
KidsAre means (Some a) None (i ∷ []) = means a i
KidsAre means (Some a) (Some b) (i ∷ j ∷ []) = means a i × means b j
KidsAre means _ _ _ = ⊥

abbrev pub AreKidSets : NormalForm → List Items → Type 0
AreKidSets normal [] = Unit {0}
AreKidSets normal (i ∷ is) = IsKidSet normal i × AreKidSets normal is

-- the class is one that some attribute has, and 0 where there are kids
abbrev pub IsClassOver : {A : Type 0} → NormalForm → ℕ → Option A → Type 0
IsClassOver normal class None = Occurs normal.tests class
IsClassOver normal class (Some kid) = class ≡ 0

-- both are there, or neither
abbrev pub AreAlike : {A B : Type 0} → Option A → Option B → Type 0
AreAlike None None = Unit {0}
AreAlike (Some x) (Some y) = Unit {0}
AreAlike _ _ = ⊥

-- each rule for the operator has as many kids
abbrev pub HasLawfulKids : {A : Type 0} → NormalForm → ℕ → Option A → Option A → Type 0
HasLawfulKids normal operator a b = (r : ℕ) (rule : NormalRule) (x y test : Option ℕ) → normal_at normal r ≡ Some rule → rule.body ≡ Operator operator x y test → AreAlike x a × AreAlike y b
