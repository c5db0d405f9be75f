use Rattle.sel_cli.proofs.Certifying.{are_trees}
use Rattle.sel_cli.proofs.jobs.certify.batch_output.Goals as goal

pub certify_trees-requires-clause-trees : goal.certify_trees-requires-clause-trees
certify_trees-requires-clause-trees c = are_trees c.args.grammar.now c.args.batch.now c.requires.trees

pub returns : goal.returns
returns c = record { are_trees = are_trees c.args.grammar.now c.args.batch.now c.requires.trees; certified = c.in_ok-text.ensures }
