use Rattle.sel_grammar_text.proofs.Completeness.{spelled_complete}
use Rattle.sel_grammar_text.proofs.Lawfulness.{spelled_lawful}
use Rattle.sel_grammar_text.proofs.read.read_grammar.Goals as goal

pub returns-in-Ok-clause-lawful : goal.returns-in-Ok-clause-lawful
returns-in-Ok-clause-lawful c = spelled_lawful c.args.bytes.now c.in-Ok.grammar c.in-Ok.ensures.grammar

pub returns-in-Ok-clause-complete : goal.returns-in-Ok-clause-complete
returns-in-Ok-clause-complete c = spelled_complete c.args.bytes.now c.in-Ok.grammar c.in-Ok.ensures.grammar
