use Rattle.std.proofs.Common.{◌≡◌, ◌==◌, ◌+◌, ◌≤◌, length}
use Rattle.sel_grammar_text.specs.TemplateText.{pieces, first_sign}
use Rattle.sel_grammar_text.proofs.signs.result_at.Given as goal

abbrev pub invariant-pieces : goal.invariant-pieces
invariant-pieces l = record {
  same : first_sign (λ c. c == 99) (pieces l.place l.rest) ≡ first_sign (λ c. c == 99) (pieces l.at l.inside);
  room : l.place + length l.rest ≤ l.at + length l.inside;
}

abbrev pub decreases-pieces : goal.decreases-pieces
decreases-pieces l = length l.rest
