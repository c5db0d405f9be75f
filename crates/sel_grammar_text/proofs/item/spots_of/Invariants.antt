use Rattle.std.proofs.Common.{◌≡◌, ◌≤◌, ◌++◌, ◌-◌, map, length}
use Rattle.std.specs.List.{AllByRecursion}
use Rattle.sel_grammar_text.specs.Spots as spots
use Rattle.sel_grammar_text.specs.Words as words
use Rattle.sel_grammar_text.specs.ItemNumbers.{IsSpot}
use Rattle.sel_grammar_text.proofs.item.spots_of.Given as goal

abbrev pub invariant-tokens : goal.invariant-tokens
invariant-tokens l = record {
  same : map words.view_spot l.spots.items ++ spots.first l.all (l.count - l.counter) l.rest ≡ spots.first l.all l.count l.left;
  within : length l.rest ≤ l.all;
  lexical : AllByRecursion IsSpot (map words.view_spot l.spots.items);
}
