use Rattle.std.proofs.Common.{◌≡◌, false, ◌+◌, drop}
use Rattle.std.specs.Prelude.{option_map}
use Rattle.sel_grammar_text.specs.Tokens as tokens
use Rattle.sel_grammar_text.proofs.tokens.inside_len.Given as goal

abbrev pub invariant-loop-n : goal.invariant-loop-n
invariant-loop-n l = tokens.inside_len false l.bytes ≡ option_map (λ k. l.n + k) (tokens.inside_len l.escaped (drop l.n l.bytes))
