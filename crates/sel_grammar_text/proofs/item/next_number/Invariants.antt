use Rattle.std.proofs.Common.{◌≡◌, map, length}
use Rattle.sel_grammar_text.specs.Cutting as cutting
use Rattle.sel_grammar_text.specs.Words as words
use Rattle.sel_grammar_text.proofs.item.next_number.Given as goal

abbrev pub invariant-spots : goal.invariant-spots
invariant-spots l = cutting.numbers_in (map words.view_spot l.rest) ≡ cutting.numbers_in (map words.view_spot l.spots)

abbrev pub decreases-spots : goal.decreases-spots
decreases-spots l = length l.rest
