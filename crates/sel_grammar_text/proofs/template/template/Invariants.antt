use Rattle.std.proofs.Common.{ℕ, ◌≡◌, ◌++◌, length}
use Rattle.sel_grammar_text.specs.TemplateText.{pieces, parts_of, template_of, add_bytes}
use Rattle.sel_grammar_text.proofs.template.template.Given as goal

abbrev pub invariant-pieces : goal.invariant-pieces
invariant-pieces l = (at : ℕ) × (l.parts.items ++ add_bytes l.text.items (parts_of (pieces at l.rest)) ≡ template_of l.inside)

abbrev pub decreases-pieces : goal.decreases-pieces
decreases-pieces l = length l.rest
