use Rattle.std.proofs.Common.{◌≡◌, ℕ, ◌<◌, length, slice_get}
use Rattle.std.specs.Option.{option_flatten}
use Rattle.sel_plain.specs.Rows.{entry_at, row_at, entry_cost}
use Rattle.sel_plain.proofs.node_costs.row_costs.Given as goal

abbrev pub invariant-loop-nonterminal : goal.invariant-loop-nonterminal
invariant-loop-nonterminal l = record {
  long : length l.row ≡ l.nonterminal;
  costs : (n : ℕ) → n < l.nonterminal → option_flatten (slice_get l.row n) ≡ entry_cost (entry_at (row_at l.table.rows l.at) n);
}
