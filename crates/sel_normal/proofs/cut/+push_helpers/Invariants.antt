use Rattle.std.proofs.Common.{ℕ}
use Rattle.sel_grammar.specs.Lawful.{names_of}
use Rattle.sel_normal.proofs.cut.+push_helpers.Given as goal

abbrev pub decreases-push_helpers : goal.decreases-push_helpers
decreases-push_helpers l = names_of l.part.now
