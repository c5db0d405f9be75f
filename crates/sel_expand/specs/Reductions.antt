-- The reductions of a cover, as contracts see them: each with the places of its kids'.
use Rattle.std.specs.Prelude.{ℕ, ◌≤◌, Option, Some, None, List, [], ◌∷◌, length, map, slice_range}
use Rattle.sel_expand.specs.declared.reductions.Reduction.{Reduction}
use Rattle.sel_expand.specs.declared.reductions.Slot.{Slot}

-- a reduction, and the places of its kids' reductions
pub record Reduced : Type 0 where
  pub own : Reduction
  pub kids : List ℕ

-- the reduction of a slot, whose kids stand in the list of all kids
abbrev pub reduced_slot : List ℕ → Slot → Reduced
reduced_slot kids s = record { own = s.own; kids = slice_range kids s.start s.end }

abbrev pub reduced_slots : List ℕ → List Slot → List Reduced
reduced_slots kids slots = map (reduced_slot kids) slots

-- the kids of each slot stand in the list
abbrev pub AreWithin : List ℕ → List Slot → Type 0
AreWithin kids [] = Unit {0}
AreWithin kids (s ∷ slots) = ((s.start ≤ s.end) × (s.end ≤ length kids)) × AreWithin kids slots

abbrev pub own_of : Option Reduced → Option Reduction
own_of None = None
own_of (Some r) = Some r.own

abbrev pub kids_of : Option Reduced → List ℕ
kids_of None = []
kids_of (Some r) = r.kids
