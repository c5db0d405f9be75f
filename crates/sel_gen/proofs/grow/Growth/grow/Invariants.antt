use Rattle.std.proofs.Common.{reverse}
use Rattle.sel_gen.specs.Growing.{IsGrowing, weights}
use Rattle.sel_gen.proofs.grow.Growth.grow.Given as goal

abbrev pub invariant-tasks : goal.invariant-tasks
invariant-tasks l = IsGrowing l.grammar l.sizes l.budget l.fn.words (reverse l.self.tasks.items) l.words l.self.nodes.items l.self.roots.items

abbrev pub decreases-tasks : goal.decreases-tasks
decreases-tasks l = weights (reverse l.self.tasks.items)
