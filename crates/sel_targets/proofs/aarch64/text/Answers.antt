-- The constant and the lines of the definition are the same bytes.
use Rattle.std.proofs.Common.{refl}
use Rattle.sel_targets.specs.Aarch64.{aarch64_text}
use Rattle.sel_targets.specs.Lines.{lines}
use Rattle.sel_targets.proofs.aarch64.text.Goals as goal

pub returns-clause-exact : goal.returns-clause-exact
unfolding aarch64_text lines
returns-clause-exact c = refl
