use Rattle.sel_closing.proofs.Asks.{fresh_ask_nothing, ask_of_more}
use Rattle.sel_closing.proofs.laws.parts_ask_only.Goals as goal

pub returns : goal.returns
returns c = record { fresh = fresh_ask_nothing; more = ask_of_more }
