-- The rule of the tickets: the numbers in all views differ and are those below the word.
use Rattle.std.specs.Prelude.{◌≡◌, ℕ, ◌+◌, ◌-◌, ◌<◌, ◌≤◌, ◌^◌, ◌⊎◌, List, [], ◌∷◌, ◌++◌, length, slice_index}
use mathlib.Core.Option.{some}
use lib.ListN.{get_elem?}
use Rattle.sel_tickets.specs.declared.rule.TicketSetting.{TicketSetting}
use Rattle.sel_tickets.specs.declared.rule.TicketView.{TicketView}
use Rattle.sel_tickets.specs.Sums.{weigh, times, one_if_below, late_in}

-- how many numbers that are no tree's the view has drawn
abbrev pub late : TicketView → ℕ
late v = late_in v.trees v.drawn

-- what a view that was joined into another leaves
abbrev pub spent : TicketView
spent = record { drawn = []; trees = 0; workers = 0; seats = 0; rest = 0 }

-- A view that isn't spent: it has a seat, at most one number that is no tree's for each, and the table's setting.
pub record IsSeated (key : TicketSetting) (v : TicketView) : Type 0 where
  pub seated : 1 ≤ v.seats
  pub few : late v ≤ v.seats
  pub trees : v.trees ≡ key.trees
  pub workers : v.workers ≡ key.workers

-- What holds between any two steps: there is one word; the numbers in all views differ and are exactly those below it; each view is spent or seated; and all seats, with those that may still be split, are as many as the workers.
pub record AreTickets (key : TicketSetting) (words : List ℕ) (views : List TicketView) : Type 0 where
  pub small : (key.trees < 2 ^ 32) × (key.workers < 2 ^ 32)
  pub one_word : words ≡ slice_index words 0 ∷ []
  pub each_once : (x : ℕ) → weigh (λ v. times x v.drawn) views ≡ one_if_below x (slice_index words 0)
  pub seated : (i : ℕ) (v : TicketView) → get_elem? views i ≡ some v → (v ≡ spent) ⊎ IsSeated key v
  pub all_seats : weigh (λ v. v.seats + v.rest) views ≡ key.workers

-- the view that the table begins with
abbrev pub first_view : TicketSetting → TicketView
first_view key = record { drawn = []; trees = key.trees; workers = key.workers; seats = 1; rest = key.workers - 1 }

-- what is left of a view from which one is split
abbrev pub left_view : TicketView → TicketView
left_view v = record { drawn = v.drawn; trees = v.trees; workers = v.workers; seats = v.seats; rest = v.rest - 1 }

-- the view that is split off
abbrev pub new_view : TicketView → TicketView
new_view v = record { drawn = []; trees = v.trees; workers = v.workers; seats = 1; rest = 0 }

-- two views made one
abbrev pub both_views : TicketView → TicketView → TicketView
both_views v w = record { drawn = v.drawn ++ w.drawn; trees = v.trees; workers = v.workers; seats = v.seats + w.seats; rest = v.rest + w.rest }

-- one number more was drawn, no less than how many this view had drawn
pub record Drew (v : TicketView) (x : ℕ) (w : TicketView) : Type 0 where
  pub view : w ≡ record { drawn = v.drawn ++ x ∷ []; trees = v.trees; workers = v.workers; seats = v.seats; rest = v.rest }
  pub long : length v.drawn ≤ x
