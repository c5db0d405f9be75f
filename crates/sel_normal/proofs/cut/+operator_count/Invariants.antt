use Rattle.std.proofs.Common.{ℕ}
use Rattle.sel_grammar.specs.Lawful.{names_of}
use Rattle.sel_normal.proofs.cut.+operator_count.Given as goal

abbrev pub decreases-operator_count : goal.decreases-operator_count
decreases-operator_count l = names_of l.pattern.now
