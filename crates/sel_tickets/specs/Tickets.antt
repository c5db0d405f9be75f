-- What tickets and their drawers are.
use Rattle.std.specs.Prelude.{ℕ, ◌+◌, List, [], ◌∷◌, ◌++◌}
use Rattle.atomic_table.specs.Seated.{TableId}

-- Which tickets: their table, how many trees there are, and for how many workers they were made.
pub record Roll : Type 0 where
  pub id : TableId
  pub trees : ℕ
  pub workers : ℕ

-- A drawer: of which tickets; the trees' numbers that it drew, in order; how many of its workers drew a number that is no tree's; how many drawers were joined into it; and how many may still be split from it.
pub record Drawn : Type 0 where
  pub of : Roll
  pub numbers : List ℕ
  pub ended : ℕ
  pub seats : ℕ
  pub rest : ℕ

-- a drawer for one worker that has drawn nothing
abbrev pub new_drawn : Roll → ℕ → Drawn
new_drawn roll rest = record { of = roll; numbers = []; ended = 0; seats = 1; rest = rest }

-- the drawer after it drew a tree's number
abbrev pub with_number : Drawn → ℕ → Drawn
with_number d n = record { of = d.of; numbers = d.numbers ++ n ∷ []; ended = d.ended; seats = d.seats; rest = d.rest }

-- the drawer after it drew a number that is no tree's
abbrev pub with_end : Drawn → Drawn
with_end d = record { of = d.of; numbers = d.numbers; ended = d.ended + 1; seats = d.seats; rest = d.rest }

-- two drawers made one
abbrev pub joined : Drawn → Drawn → Drawn
joined d e = record { of = d.of; numbers = d.numbers ++ e.numbers; ended = d.ended + e.ended; seats = d.seats + e.seats; rest = d.rest + e.rest }
