use Rattle.sel_closing.proofs.Asks.{answers_ask_only, answers_tell_more}
use Rattle.sel_closing.proofs.laws.answers_ask_only.Goals as goal

pub returns : goal.returns
returns c = record { asked = answers_ask_only; told = answers_tell_more }
