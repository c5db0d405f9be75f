use Rattle.sel_rows_cases.proofs.accepted.accept.Goals as goal

pub returns : goal.returns
returns c = record {
  lawful = c.in_ok-grammar.ensures.lawful;
  accepted = c.in_ok-normal.ensures.accepted;
  form = c.in_ok-normal.ensures.form;
}
