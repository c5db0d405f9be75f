use Rattle.sel_grammar_text.proofs.Lawfulness.{spelled_lawful}
use Rattle.sel_grammar_text.proofs.laws.spelled_is_lawful.Goals as goal

pub returns : goal.returns
returns c = spelled_lawful
