use Rattle.sel_items.proofs.EntryRules.{entries_have_rules, fitting_sets_have_words}
use Rattle.sel_items.proofs.laws.entries_have_rules.Goals as goal

pub returns : goal.returns
returns c = record { rules = entries_have_rules; words = fitting_sets_have_words }
