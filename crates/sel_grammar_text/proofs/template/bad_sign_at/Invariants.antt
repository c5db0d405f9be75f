use Rattle.std.proofs.Common.{◌≡◌, ◌+◌, ◌≤◌, length}
use Rattle.sel_grammar_text.specs.TemplateText.{pieces, bad_sign}
use Rattle.sel_grammar_text.proofs.template.bad_sign_at.Given as goal

abbrev pub invariant-pieces : goal.invariant-pieces
invariant-pieces l = record {
  same : bad_sign (pieces l.place l.rest) ≡ bad_sign (pieces l.at l.inside);
  room : l.place + length l.rest ≤ l.at + length l.inside;
}

abbrev pub decreases-pieces : goal.decreases-pieces
decreases-pieces l = length l.rest
