use Rattle.std.proofs.Common.{◌≡◌, ◌≤◌, length}
use Rattle.sel_grammar_text.specs.Blanks as blanks
use Rattle.sel_grammar_text.proofs.tokens.skip.Given as goal

abbrev pub invariant-loop-rest : goal.invariant-loop-rest
invariant-loop-rest l = record {
  same : blanks.skip l.left ≡ blanks.skip l.bytes;
  shorter : length l.left ≤ length l.bytes;
}

abbrev pub decreases-loop-rest : goal.decreases-loop-rest
decreases-loop-rest l = length l.left
