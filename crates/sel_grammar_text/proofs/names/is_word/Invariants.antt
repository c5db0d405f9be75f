use Rattle.std.proofs.Common.{◌≡◌, map, length}
use Rattle.sel_grammar_text.specs.Names as spec
use Rattle.sel_grammar_text.specs.Words.{view_word}
use Rattle.sel_grammar_text.proofs.names.is_word.Given as goal

abbrev pub invariant-words : goal.invariant-words
invariant-words l = spec.is_among (map (λ w. w.bytes) (map view_word l.rest)) l.name ≡ spec.is_among (map (λ w. w.bytes) (map view_word l.words)) l.name

abbrev pub decreases-words : goal.decreases-words
decreases-words l = length l.rest
