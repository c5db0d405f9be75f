-- The constant and the lines of the definition are the same bytes.
use Rattle.std.proofs.Common.{refl}
use Rattle.sel_targets.specs.X8664.{x86_64_text}
use Rattle.sel_targets.specs.Lines.{lines}
use Rattle.sel_targets.proofs.x86_64.text.Goals as goal

pub returns-clause-exact : goal.returns-clause-exact
unfolding x86_64_text lines
returns-clause-exact c = refl
