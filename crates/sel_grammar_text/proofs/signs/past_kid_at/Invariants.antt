use Rattle.std.proofs.Common.{◌≡◌, ◌+◌, ◌≤◌, length}
use Rattle.sel_grammar_text.specs.Checks as checks
use Rattle.sel_grammar_text.specs.TemplateText.{pieces, first_sign}
use Rattle.sel_grammar_text.proofs.signs.past_kid_at.Given as goal

abbrev pub invariant-pieces : goal.invariant-pieces
invariant-pieces l = record {
  same : first_sign (checks.is_past_kid l.leaves) (pieces l.place l.rest) ≡ first_sign (checks.is_past_kid l.leaves) (pieces l.at l.inside);
  room : l.place + length l.rest ≤ l.at + length l.inside;
}

abbrev pub decreases-pieces : goal.decreases-pieces
decreases-pieces l = length l.rest
