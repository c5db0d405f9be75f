use Rattle.std.proofs.Common.{◌∙◌}
use Rattle.sel_rows.proofs.hand.Hand.stand.Goals as goal

pub stand_as-requires-clause-whole : goal.stand_as-requires-clause-whole
stand_as-requires-clause-whole g c = c.requires.whole ∙ c.args.self.now.rows.now.width_is
