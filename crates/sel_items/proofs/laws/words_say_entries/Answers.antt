use Rattle.sel_items.proofs.SaidEntries.{words_say}
use Rattle.sel_items.proofs.laws.words_say_entries.Goals as goal

pub returns : goal.returns
returns c = words_say
