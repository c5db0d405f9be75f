-- Words of bits, which say where free chain rules lead.
use Rattle.std.specs.Prelude.{◌≡◌, ℕ, List, slice_index}
use Rattle.std.specs.Int.{bit_at}
use Rattle.sel_grammar.specs.declared.grammar.Rule.{Rule}
use Rattle.sel_grammar.specs.declared.grammar.Pattern.{Leaf}
use Rattle.sel_grammar.specs.Costs.{no_cost, price}

-- the rule is a chain rule to m and costs nothing
abbrev pub IsFreeChain : Rule → ℕ → Type 0
IsFreeChain rule m = (rule.pattern ≡ Leaf m) × (price rule ≡ no_cost)

-- the word n has the bit m
abbrev pub Leads : List ℕ → ℕ → ℕ → Type 0
Leads rows n m = bit_at (slice_index rows n) m ≡ 1
