use Rattle.sel_normal.proofs.Matching.{each_has_normal_match, each_has_user_match}
use Rattle.sel_normal.proofs.laws.derivations_match.Goals as goal

pub returns : goal.returns
returns c = record { normal = each_has_normal_match; user = each_has_user_match }
