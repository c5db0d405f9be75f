use Rattle.sel_grammar_text.proofs.Completeness.{spelled_complete}
use Rattle.sel_grammar_text.proofs.laws.spelled_is_complete.Goals as goal

pub returns : goal.returns
returns c = spelled_complete
