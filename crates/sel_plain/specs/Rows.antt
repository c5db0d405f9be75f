-- Rows of entries, one for each node of a tree.
use Rattle.std.specs.Prelude.{ℕ, zero, suc, Option, List, [], ◌∷◌, slice_get, take, drop}
use Rattle.std.specs.Option.{option_flatten, option_map, unwrap_or}
use Rattle.sel_grammar.specs.Costs.{Cost}
use Rattle.sel_plain.specs.declared.entry.Entry.{Entry}

-- what a row has for each nonterminal, if anything
abbrev pub Row : Type 0
Row = List (Option Entry)

-- a table: how many places each row has, and the rows
pub record Rows : Type 0 where
  pub width : ℕ
  pub rows : List Row

-- a list cut into so many rows of one width
abbrev pub rows_of : ℕ → ℕ → Row → List Row
rows_of zero width entries = []
rows_of (suc count) width entries = take width entries ∷ rows_of count width (drop width entries)

-- the entry of a nonterminal in a row
abbrev pub entry_at : Row → ℕ → Option Entry
entry_at row n = option_flatten (slice_get row n)

abbrev pub entry_cost : Option Entry → Option Cost
entry_cost entry = option_map (λ e. e.cost) entry

-- the row of a node
abbrev pub row_at : List Row → ℕ → Row
row_at rows i = unwrap_or (slice_get rows i) []
