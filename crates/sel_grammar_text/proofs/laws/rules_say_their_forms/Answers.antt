use Rattle.sel_grammar_text.proofs.SaidForms.{rule_is_cut, rules_say_forms}
use Rattle.sel_grammar_text.proofs.laws.rules_say_their_forms.Goals as goal

pub returns-clause-cut : goal.returns-clause-cut
returns-clause-cut c = rule_is_cut

pub returns-clause-whole : goal.returns-clause-whole
returns-clause-whole c = rules_say_forms
