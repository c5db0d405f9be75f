use Rattle.sel_full.proofs.StateKeys.{state_keys_follow}
use Rattle.sel_full.proofs.laws.state_keys_follow.Goals as goal

pub returns : goal.returns
returns c = state_keys_follow
