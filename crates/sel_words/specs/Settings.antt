-- The options' values, and what they are where an option isn't given.
use Rattle.std.specs.Prelude.{ℕ, ◌≤◌, Bool, ◌&&◌, nat_le, List, [], ◌∷◌, length, Option, Some, None, option_and_then, option_map, codes, if◌then◌else◌}
use Rattle.std.specs.List.{list_all}
use Rattle.std.specs.Char.{is_ascii_digit}
use Rattle.std.specs.Str.Parse.{digits_value}
use Rattle.sel_words.specs.declared.settings.Bounds.{Bounds}
use Rattle.sel_words.specs.declared.settings.Settings.{Settings}

-- the least and the greatest value of each option, and its value where it isn't given
abbrev pub workers_bounds : Bounds
workers_bounds = record { least = 1; greatest = 64; default = 4 }

abbrev pub states_bounds : Bounds
states_bounds = record { least = 0; greatest = 32768; default = 4096 }

abbrev pub rows_bounds : Bounds
rows_bounds = record { least = 0; greatest = 1048576; default = 65536 }

abbrev pub seed_bounds : Bounds
seed_bounds = record { least = 0; greatest = 18446744073709551615; default = 1 }

abbrev pub trees_bounds : Bounds
trees_bounds = record { least = 0; greatest = 1000000; default = 1000 }

abbrev pub size_bounds : Bounds
size_bounds = record { least = 1; greatest = 1000; default = 64 }

-- the most digits of a value
abbrev pub most_digits : ℕ
most_digits = 20

-- one or more decimal digits, and not too many
abbrev pub is_number : List ℕ → Bool
is_number text = nat_le 1 (length text) && (nat_le (length text) most_digits && list_all is_ascii_digit text)

abbrev pub is_within : Bounds → ℕ → Bool
is_within bounds n = nat_le bounds.least n && nat_le n bounds.greatest

-- the number that the text writes, where it is one within the bounds
abbrev pub number_within : Bounds → List ℕ → Option ℕ
number_within bounds text = if is_number text && is_within bounds (digits_value 10 text) then Some (digits_value 10 text) else None

-- an option stands at most once
abbrev pub chosen_value : Bounds → List (List ℕ) → Option ℕ
chosen_value bounds [] = Some bounds.default
chosen_value bounds (value ∷ []) = number_within bounds value
chosen_value bounds _ = None

-- what the options say, by the values that are given for each name
abbrev pub chosen_settings : (List ℕ → List (List ℕ)) → Option Settings
chosen_settings values =
    option_and_then (λ workers. option_and_then (λ states. option_and_then (λ rows. option_and_then (λ seed. option_and_then (λ trees. option_map (λ size.
    record { workers = workers; states = states; rows = rows; seed = seed; trees = trees; size = size })
    (chosen_value size_bounds (values (codes "size")))) (chosen_value trees_bounds (values (codes "trees")))) (chosen_value seed_bounds (values (codes "seed"))))
    (chosen_value rows_bounds (values (codes "rows")))) (chosen_value states_bounds (values (codes "states")))) (chosen_value workers_bounds (values (codes "workers")))

-- the number of workers, the automaton's of states and transitions, and a made forest's of trees and their size, are within their bounds
pub record AreWithinBounds (settings : Settings) : Type 0 where
  pub some_workers : workers_bounds.least ≤ settings.workers
  pub few_workers : settings.workers ≤ workers_bounds.greatest
  pub few_states : settings.states ≤ states_bounds.greatest
  pub few_rows : settings.rows ≤ rows_bounds.greatest
  pub few_trees : settings.trees ≤ trees_bounds.greatest
  pub some_size : size_bounds.least ≤ settings.size
  pub small_size : settings.size ≤ size_bounds.greatest
