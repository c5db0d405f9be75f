use Rattle.sel_trials.proofs.Trees.{tree_at}
use Rattle.sel_trials.proofs.expanded.put_texts.Goals as goal

pub put_line-requires : goal.put_line-requires
put_line-requires c = record { tree = tree_at c.args.grammar.now c.args.forest.now c.in-Some-get.tree.now c.in-Some.at c.requires.valid c.in-Some-get.ensures.value }
