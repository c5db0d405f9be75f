use Rattle.std.proofs.Common.{◌≡◌, map, length}
use Rattle.std.specs.List.{AllByRecursion}
use Rattle.sel_grammar_text.specs.Cutting as cutting
use Rattle.sel_grammar_text.specs.Words as words
use Rattle.sel_grammar_text.specs.ItemNumbers.{IsSpot}
use Rattle.sel_grammar_text.proofs.item.tail_in.Given as goal

abbrev pub invariant-spots : goal.invariant-spots
invariant-spots l = record {
  same : cutting.tail_in (map words.view_spot l.rest) ≡ cutting.tail_in (map words.view_spot l.spots);
  lexical : AllByRecursion IsSpot (map words.view_spot l.rest);
}

abbrev pub decreases-spots : goal.decreases-spots
decreases-spots l = length l.rest
