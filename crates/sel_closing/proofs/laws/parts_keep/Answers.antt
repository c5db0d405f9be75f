use Rattle.sel_closing.proofs.Keeping.{kept_stays_kept, parts_still_keep, parts_keep_both}
use Rattle.sel_closing.proofs.laws.parts_keep.Goals as goal

pub returns : goal.returns
returns c = record { one = kept_stays_kept; all = parts_still_keep; both = parts_keep_both }
