use Rattle.std.proofs.Common.{◌≡◌, ℕ, length, false}
use Rattle.sel_grammar_text.specs.TemplateText.{pieces, ends_line_from}
use Rattle.sel_grammar_text.proofs.signs.is_instruction.Given as goal

abbrev pub invariant-pieces : goal.invariant-pieces
invariant-pieces l = (at : ℕ) → (place : ℕ) × (ends_line_from l.ends (pieces place l.rest) ≡ ends_line_from false (pieces at l.inside))

abbrev pub decreases-pieces : goal.decreases-pieces
decreases-pieces l = length l.rest
