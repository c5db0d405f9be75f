-- The codes of a call's answer, and what is told with each.
use Rattle.std.specs.Prelude.{ℕ, pos}
use Rattle.sel_grammar.specs.Costs.{Cost}
use Rattle.sel_c.specs.declared.told.Told.{Told}

abbrev pub done : ℕ
done = 0

abbrev pub no_cover : ℕ
no_cover = 1

abbrev pub too_long : ℕ
too_long = 2

abbrev pub short : ℕ
short = 3

abbrev pub bad_grammar : ℕ
bad_grammar = 4

abbrev pub bad_forest : ℕ
bad_forest = 5

abbrev pub not_one : ℕ
not_one = 7

abbrev pub too_big : ℕ
too_big = 8

abbrev pub no_memory : ℕ
no_memory = 9

abbrev pub is_open : ℕ
is_open = 10

abbrev pub is_closed : ℕ
is_closed = 11

-- a code, and nothing else
abbrev pub told_code : ℕ → Told
told_code code = record { code = code; kind = 0; line = 0; column = 0; place = 0; cost = 0; ties = pos 0; needs = 0 }

-- a fault of a text: its kind, its line and its column
abbrev pub told_fault : ℕ → ℕ → ℕ → ℕ → Told
told_fault code kind line column = record { code = code; kind = kind; line = line; column = column; place = 0; cost = 0; ties = pos 0; needs = 0 }

-- the cost of a derivation, and how many items are written of it, or wanted
abbrev pub told_cost : ℕ → Cost → ℕ → Told
told_cost code c needs = record { code = code; kind = 0; line = 0; column = 0; place = 0; cost = c.first; ties = c.second; needs = needs }
