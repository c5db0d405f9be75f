use Rattle.sel_cli.proofs.Endings.{normal_judged}
use Rattle.sel_cli.proofs.texts.judged.Goals as goal

pub returns-in-Ok-clause-form : goal.returns-in-Ok-clause-form
returns-in-Ok-clause-form c = record {
  lawful = c.in_ok-grammar.ensures.lawful;
  accepted = c.in-Ok.ensures.accepted;
  form = c.in-Ok.ensures.form;
}

pub returns-in-Err-clause-refused : goal.returns-in-Err-clause-refused
returns-in-Err-clause-refused c = normal_judged _ _ c.in-Err.refusal c.in_ok-grammar.ensures.ok c.in-Err.ensures.fault
