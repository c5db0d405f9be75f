use Rattle.sel_grammar_text.proofs.SpelledNames.{spelled_has_names}
use Rattle.sel_grammar_text.proofs.spelled_laws.spelled_has_names.Goals as goal

pub returns : goal.returns
returns c = spelled_has_names
