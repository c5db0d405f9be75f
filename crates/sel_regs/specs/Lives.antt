-- Where temporaries are live, and how many are at once. A line is the list of the temporaries that it names, each a number from 1.
use Rattle.std.specs.Prelude.{◌≡◌, ℕ, zero, suc, max, nat_le, nat_lt, Bool, true, ◌&&◌, ◌==◌, if◌then◌else◌, Some, List, [], ◌∷◌, length, map, slice_get}
use Rattle.std.specs.List.{list_any, count_by, range_with_len}

-- for each line the temporaries that it names
abbrev pub Lines : Type 0
Lines = List (List ℕ)

-- the line names the temporary
abbrev pub is_on : ℕ → List ℕ → Bool
is_on k line = list_any (λ t. t == k) line

-- how many lines stand before the first that names the temporary: all of them where none does
abbrev pub first_line : Lines → ℕ → ℕ
first_line [] k = 0
first_line (line ∷ lines) k = if is_on k line then 0 else suc (first_line lines k)

-- one line more in front, which names the temporary or doesn't
abbrev pub with_line : Bool → ℕ → ℕ
with_line here zero = if here then 1 else 0
with_line here (suc n) = suc (suc n)

-- how many lines there are to the last that names the temporary, that one among them: 0 where none does
abbrev pub lines_to_last : Lines → ℕ → ℕ
lines_to_last [] k = 0
lines_to_last (line ∷ lines) k = with_line (is_on k line) (lines_to_last lines k)

-- The temporary is live on line i, from 0: the line lies between the first and the last that name it, both included.
abbrev pub is_live : Lines → ℕ → ℕ → Bool
is_live lines i k = nat_le (first_line lines k) i && nat_lt i (lines_to_last lines k)

-- how many of the temporaries from 1 to `temps` are live on the line
abbrev pub live_on : Lines → ℕ → ℕ → ℕ
live_on lines temps i = count_by (is_live lines i) (range_with_len 1 temps)

-- the greatest of some numbers, and 0 where there are none
abbrev pub greatest_of : List ℕ → ℕ
greatest_of [] = 0
greatest_of (n ∷ ns) = max n (greatest_of ns)

-- the greatest number of temporaries that are live on one line, and 0 where there is no line
abbrev pub needs : Lines → ℕ → ℕ
needs lines temps = greatest_of (map (live_on lines temps) (range_with_len 0 (length lines)))

-- some line names the temporary
abbrev pub IsNamed : Lines → ℕ → Type 0
IsNamed lines k = (i : ℕ) × (line : List ℕ) × (slice_get lines i ≡ Some line) × (is_on k line ≡ true)
