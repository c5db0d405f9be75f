use Rattle.sel_grammar_text.proofs.OneAnswer.{one_grammar, one_grammar_fault, not_both}
use Rattle.sel_grammar_text.proofs.SomeAnswer.{some_answer}
use Rattle.sel_grammar_text.proofs.laws.grammar_or_fault.Goals as goal

pub returns-clause-grammar_is_one : goal.returns-clause-grammar_is_one
returns-clause-grammar_is_one c = one_grammar

pub returns-clause-fault_is_one : goal.returns-clause-fault_is_one
returns-clause-fault_is_one c = one_grammar_fault

pub returns-clause-not_both : goal.returns-clause-not_both
returns-clause-not_both c = not_both

pub returns-clause-some : goal.returns-clause-some
returns-clause-some c = some_answer
