use Rattle.std.proofs.Common.{sym, ◌∙◌}
use Rattle.sel_grammar_text.proofs.Blanks.{pair_short}
use Rattle.sel_grammar_text.proofs.tokens.behind_pair.Goals as goal

pub returns-clause-rest : goal.returns-clause-rest
returns-clause-rest c = sym c.loop-left.invariant.rest ∙ pair_short c.args.first c.args.second c.loop-left.left.now c.in_default.len_below
