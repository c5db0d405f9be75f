use Rattle.sel_closing.proofs.Closing.{snapshots_tell}
use Rattle.sel_closing.proofs.laws.snapshots_tell.Goals as goal

pub returns : goal.returns
returns c = snapshots_tell
