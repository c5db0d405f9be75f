-- The numbers of a cost. Only this file, its lemmas and those of sel_grammar's costs look into a cost.
use Rattle.std.specs.Prelude.{◌≡◌, ℕ, ◌+◌, ◌-◌, ◌*◌, ◌≤◌, ◌^◌, min, ℤ, pos, negsuc, ◌+ℤ◌, ◌≤ℤ◌, Bool, ◌&&◌, ◌||◌, ◌==◌, ◌⊎◌}
use Rattle.std.specs.Int.{saturate_to_bits}
use Rattle.std.specs.Prelude.{nat_lt, int_lt}
use Rattle.sel_forest.specs.Limits.{most_nodes}
use Rattle.sel_grammar.specs.Limits.{greatest_cost, most_nonterminals}
use Rattle.sel_grammar.specs.Costs.{Cost, IsCheaper}

-- the sum, each number stopping at the end of its type
abbrev pub capped_sum : Cost → Cost → Cost
capped_sum a b = record { first = min (a.first + b.first) (2 ^ 64 - 1); second = saturate_to_bits 63 (a.second +ℤ b.second) }

-- neither number is less than 0 or more than `most`
pub record IsUpTo (most : ℕ) (c : Cost) : Type 0 where
  pub first : c.first ≤ most
  pub low : pos 0 ≤ℤ c.second
  pub high : c.second ≤ℤ pos most

-- a costs the same as b or less
abbrev pub IsNoDearer : Cost → Cost → Type 0
IsNoDearer a b = (a ≡ b) ⊎ IsCheaper a b

-- whether a costs more than b
abbrev pub is_dearer : Cost → Cost → Bool
is_dearer a b = nat_lt b.first a.first || ((b.first == a.first) && int_lt b.second a.second)

-- a signed 64-bit number, counted from the least one
abbrev pub from_least : ℤ → ℕ
from_least (pos n) = 2 ^ 63 + n
from_least (negsuc n) = 2 ^ 63 - (n + 1)

-- a number for each cost of two 64-bit numbers, in the order of costs
abbrev pub cost_place : Cost → ℕ
cost_place c = c.first * 2 ^ 64 + from_least c.second

-- the rules at one node of a best derivation cost no more together, by either number: a chain of them meets no nonterminal twice
abbrev pub per_node : ℕ
per_node = greatest_cost * most_nonterminals

-- nor do those at all nodes
abbrev pub per_tree : ℕ
per_tree = per_node * most_nodes
