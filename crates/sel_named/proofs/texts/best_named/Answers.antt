use Rattle.std.proofs.Common.{map}
use Rattle.sel_named.proofs.BestCovers.{best_is_covered, named_are_best}
use Rattle.sel_named.proofs.texts.best_named.Goals as goal

pub named_text-requires-clause-covered : goal.named_text-requires-clause-covered
named_text-requires-clause-covered c = best_is_covered c.args.grammar.now c.args.tree.now c.args.cover.now c.requires.best

pub returns : goal.returns
returns c = named_are_best c.args.grammar.now c.args.tree.now c.args.cover.now (map (λ name. name.now) c.args.names.now) c.named_text.result c.requires.best c.named_text.ensures
