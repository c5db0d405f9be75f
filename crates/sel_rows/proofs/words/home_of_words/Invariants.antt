use Rattle.std.proofs.Common.{◌≡◌, drop}
use Rattle.sel_law.specs.Words.{mixed}
use Rattle.sel_rows.proofs.words.home_of_words.Given as goal

abbrev pub invariant-loop-word : goal.invariant-loop-word
invariant-loop-word l = mixed l.hash (drop l.word-index l.words) ≡ mixed 0 l.words
