-- What is gathered from the places.
use Rattle.std.specs.Prelude.{◌≡◌, ◌<◌, ◌⊎◌, ℕ, Option, Some, None, List, [], ◌∷◌, ◌++◌, length, slice_get}
use Rattle.sel_law.specs.Words.{In}
use Rattle.sel_tickets.specs.Tickets.{Roll, Drawn, joined}
use Rattle.sel_work.specs.declared.answer.Answer.{Answer}
use Rattle.sel_crew.specs.declared.place.Made.{Made}
use Rattle.sel_crew.specs.declared.place.Place.{Place}

-- each has a number below n
abbrev pub AreBelow : ℕ → List Made → Type 0
AreBelow n ms = (m : Made) → In m ms → m.number < n

-- this stands at the number n
abbrev pub IsPut : List Made → ℕ → Answer → Type 0
IsPut ms n a = (m : Made) × In m ms × (m.number ≡ n) × (m.answer ≡ a)

-- nothing of it has the number n
abbrev pub LacksNumber : List Made → ℕ → Type 0
LacksNumber ms n = (m : Made) → In m ms → m.number ≡ n → ⊥

-- What was made stands at its numbers, and at the others what stood there.
pub record PutsMade (ms : List Made) (old new : List Answer) : Type 0 where
  pub long : length new ≡ length old
  pub each : (n : ℕ) (a : Answer) → slice_get new n ≡ Some a → IsPut ms n a ⊎ ((slice_get old n ≡ Some a) × LacksNumber ms n)

-- what was made at all of the places
abbrev pub made_at : List Place → List Made
made_at [] = []
made_at (p ∷ ps) = p.made.items ++ made_at ps

abbrev pub joined_with : Drawn → Option Drawn → Drawn
joined_with d (Some e) = joined d e
joined_with d None = d

-- the drawers of all of the places joined into one
abbrev pub joined_all : Drawn → List Place → Drawn
joined_all d [] = d
joined_all d (p ∷ ps) = joined_all (joined_with d p.drawer) ps

-- a drawer of these tickets, where there is one
abbrev pub IsDrawerOf : Roll → Option Drawn → Type 0
IsDrawerOf roll (Some e) = e.of ≡ roll
IsDrawerOf roll None = Unit {0}

-- drawers of these tickets, and answers of numbers below n
abbrev pub AreGatherable : Roll → ℕ → List Place → Type 0
AreGatherable roll n [] = Unit {0}
AreGatherable roll n (p ∷ ps) = IsDrawerOf roll p.drawer × AreBelow n p.made.items × AreGatherable roll n ps
