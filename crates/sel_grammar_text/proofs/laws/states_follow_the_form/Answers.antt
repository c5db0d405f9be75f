use Rattle.sel_grammar_text.proofs.FormSound.{is_text}
use Rattle.sel_grammar_text.proofs.FormComplete.{complete, goes_on, stops}
use Rattle.sel_grammar_text.proofs.laws.states_follow_the_form.Goals as goal

pub returns-clause-goes_on : goal.returns-clause-goes_on
returns-clause-goes_on c = goes_on

pub returns-clause-stops : goal.returns-clause-stops
returns-clause-stops c = stops

pub returns-clause-ended : goal.returns-clause-ended
returns-clause-ended c = is_text

pub returns-clause-whole : goal.returns-clause-whole
returns-clause-whole c = complete
