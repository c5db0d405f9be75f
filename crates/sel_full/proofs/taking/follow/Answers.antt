use Rattle.std.proofs.Common.{sym, ◌∙◌}
use Rattle.sel_full.proofs.KeySteps.{kid_set}
use Rattle.sel_full.proofs.taking.follow.Goals as goal

pub follow_counted-requires-clause-first : goal.follow_counted-requires-clause-first
follow_counted-requires-clause-first c = λ i e. kid_set c.args.normal.now c.args.states.now c.args.first i c.requires.sets (sym c.kid_at-left.ensures ∙ e)

pub follow_counted-requires-clause-second : goal.follow_counted-requires-clause-second
follow_counted-requires-clause-second c = λ i e. kid_set c.args.normal.now c.args.states.now c.args.second i c.requires.sets (sym c.kid_at-right.ensures ∙ e)
