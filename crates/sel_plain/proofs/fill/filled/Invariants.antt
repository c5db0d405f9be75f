use Rattle.std.proofs.Common.{◌≡◌, length}
use Rattle.sel_plain.specs.BestRows.{AreBestRows}
use Rattle.sel_plain.proofs.fill.filled.Given as goal

abbrev pub invariant-loop-at : goal.invariant-loop-at
invariant-loop-at l = record {
  long : length l.table.rows ≡ l.at;
  width : l.table.width ≡ length l.grammar.nonterminals;
  scratch : length l.row ≡ length l.grammar.nonterminals;
  best : AreBestRows l.grammar l.nodes l.table.rows l.at;
}
