use Rattle.sel_trials.proofs.Trees.{tree_at}
use Rattle.sel_trials.proofs.checked.first_checked.Goals as goal

pub checked-requires : goal.checked-requires
checked-requires c = record { tree = tree_at c.args.grammar.now c.args.forest.now c.in-Some.tree.now 0 c.requires.valid c.in-Some.ensures.value }
