use Rattle.std.proofs.Common.{◌≡◌, ◌≤◌, length}
use Rattle.sel_grammar_text.specs.Blanks as blanks
use Rattle.sel_grammar_text.proofs.tokens.behind_pair.Given as goal

abbrev pub invariant-loop-left : goal.invariant-loop-left
invariant-loop-left l = record {
  rest : blanks.behind_pair l.first l.second l.left ≡ blanks.behind_pair l.first l.second l.bytes;
  shorter : length l.left ≤ length l.bytes;
}

abbrev pub decreases-loop-left : goal.decreases-loop-left
decreases-loop-left l = length l.left
