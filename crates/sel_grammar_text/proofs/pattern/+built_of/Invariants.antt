use Rattle.std.proofs.Common.{length}
use Rattle.sel_grammar_text.proofs.pattern.+built_of.Given as goal

abbrev pub decreases-built_of : goal.decreases-built_of
decreases-built_of l = length l.names.now
