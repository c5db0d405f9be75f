use Rattle.sel_answers.proofs.TableTexts.{told_of_table}
use Rattle.sel_answers.proofs.laws.tables_are_told.Goals as goal

pub returns : goal.returns
returns c = told_of_table
