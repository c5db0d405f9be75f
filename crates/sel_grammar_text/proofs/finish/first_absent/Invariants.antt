use Rattle.std.proofs.Common.{◌≡◌, length, map}
use Rattle.sel_grammar_text.specs.GrammarText as text
use Rattle.sel_grammar_text.specs.Words.{view_word}
use Rattle.sel_grammar_text.proofs.finish.first_absent.Given as goal

abbrev pub invariant-words : goal.invariant-words
invariant-words l = text.first_absent (map (λ w. w.bytes) (map view_word l.names)) (map view_word l.rest) ≡ text.first_absent (map (λ w. w.bytes) (map view_word l.names)) (map view_word l.words)

abbrev pub decreases-words : goal.decreases-words
decreases-words l = length l.rest
