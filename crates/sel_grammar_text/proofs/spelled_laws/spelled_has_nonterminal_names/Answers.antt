use Rattle.sel_grammar_text.proofs.SpelledNonterminals.{spelled_has_nonterminal_names}
use Rattle.sel_grammar_text.proofs.spelled_laws.spelled_has_nonterminal_names.Goals as goal

pub returns : goal.returns
returns c = spelled_has_nonterminal_names
