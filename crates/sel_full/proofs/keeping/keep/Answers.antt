use Rattle.std.proofs.Common.{refl}
use Rattle.sel_full.proofs.Kept.{kept_same, kept_more, found_more}
use Rattle.sel_full.proofs.Results.{on_ok, on_ok_both}
use Rattle.sel_full.proofs.keeping.keep.Goals as goal

pub returns-in-Some-clause-kept : goal.returns-in-Some-clause-kept
returns-in-Some-clause-kept c = kept_same _ _ _ _ refl c.in-Some.ensures

pub returns-in-None-clause-kept : goal.returns-in-None-clause-kept
returns-in-None-clause-kept c = on_ok _ _ c.add.result (kept_more c.args.states.now c.add.new.states c.args.items) c.add.ensures.added

pub returns-in-None-clause-found : goal.returns-in-None-clause-found
returns-in-None-clause-found c =
    on_ok_both _ _ _ c.add.result (found_more c.args.normal.now c.args.limits.states c.args.limits.rows c.args.states.now c.add.new.states c.args.items c.requires.found) c.add.ensures.added c.add.ensures.found
