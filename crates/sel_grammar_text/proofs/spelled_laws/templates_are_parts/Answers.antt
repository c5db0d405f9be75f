use Rattle.sel_grammar_text.proofs.SpelledItems.{templates_are_parts}
use Rattle.sel_grammar_text.proofs.spelled_laws.templates_are_parts.Goals as goal

pub returns : goal.returns
returns c = templates_are_parts
