use Rattle.sel_trials.proofs.accepted.accepted_of.Goals as goal

pub returns : goal.returns
returns c = record {
  lawful = c.in_ok-grammar.ensures;
  accepted = c.in_ok-normal.ensures.accepted;
  form = c.in_ok-normal.ensures.form;
}
