use Rattle.std.proofs.Common.{◌≡◌, ◌≤◌, ◌+◌, map, length}
use Rattle.sel_grammar_text.specs.Cutting as cutting
use Rattle.sel_grammar_text.specs.Words as words
use Rattle.sel_grammar_text.proofs.item.commas.Given as goal

abbrev pub invariant-spots : goal.invariant-spots
invariant-spots l = record {
  same : l.count + cutting.commas l.depth (map words.view_spot l.rest) ≡ cutting.commas 0 (map words.view_spot l.spots);
  few : l.count + length l.rest ≤ length l.spots;
  shallow : l.depth + length l.rest ≤ length l.spots;
}

abbrev pub decreases-spots : goal.decreases-spots
decreases-spots l = length l.rest
