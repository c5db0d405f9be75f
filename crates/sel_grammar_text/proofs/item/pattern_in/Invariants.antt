use Rattle.std.proofs.Common.{◌≡◌, ◌++◌, map, length}
use Rattle.sel_grammar_text.specs.Cutting as cutting
use Rattle.sel_grammar_text.specs.Words as words
use Rattle.sel_grammar_text.proofs.item.pattern_in.Given as goal

abbrev pub invariant-spots : goal.invariant-spots
invariant-spots l = map words.view_named l.names.items ++ cutting.pattern_in (map words.view_spot l.rest) ≡ cutting.pattern_in (map words.view_spot l.spots)

abbrev pub decreases-spots : goal.decreases-spots
decreases-spots l = length l.rest
