use Rattle.sel_grammar.proofs.Words.{lists_are_words}
use Rattle.sel_grammar.proofs.laws.lists_are_words.Goals as goal

pub returns : goal.returns
returns c = lists_are_words
