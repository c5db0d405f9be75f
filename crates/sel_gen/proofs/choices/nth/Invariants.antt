use Rattle.std.proofs.Common.{◌≡◌, ◌<◌, ◌+◌, drop}
use Rattle.std.specs.List.{count_by}
use Rattle.sel_gen.specs.Drawing.{is_open, nth_place}
use Rattle.sel_gen.proofs.choices.nth.Given as goal

abbrev pub invariant-loop-at : goal.invariant-loop-at
invariant-loop-at l = record {
  place : nth_place (is_open l.nonterminal l.budget) l.choices l.number ≡ l.at + nth_place (is_open l.nonterminal l.budget) (drop l.at l.choices) l.left;
  some : l.left < count_by (is_open l.nonterminal l.budget) (drop l.at l.choices);
}
