-- The constant and the lines of the definition are the same bytes.
use Rattle.std.proofs.Common.{refl}
use Rattle.sel_targets.specs.Rv64i.{rv64i_text}
use Rattle.sel_targets.specs.Lines.{lines}
use Rattle.sel_targets.proofs.rv64i.text.Goals as goal

pub returns-clause-exact : goal.returns-clause-exact
unfolding rv64i_text lines
returns-clause-exact c = refl
