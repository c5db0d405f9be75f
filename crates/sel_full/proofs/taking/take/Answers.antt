use Rattle.sel_full.proofs.KeySteps.{key_reached}
use Rattle.sel_full.proofs.Results.{on_ok}
use Rattle.sel_full.proofs.Taken.{took_one}
use Rattle.sel_full.specs.Taking.{key_at}
use Rattle.sel_full.proofs.taking.take.Goals as goal

pub keep-requires-clause-reached : goal.keep-requires-clause-reached
keep-requires-clause-reached c =
    key_reached c.args.normal.now c.args.states.now (key_at c.args.states.now c.args.operator c.args.class c.args.first c.args.second) c.in_ok-items.items (c.requires.found).are (c.requires.may).over c.in_ok-items.ensures

pub returns-clause-took : goal.returns-clause-took
returns-clause-took c =
    on_ok _ _ c.keep.result (took_one c.args.normal.now c.args.states.now c.keep.new.states (key_at c.args.states.now c.args.operator c.args.class c.args.first c.args.second) c.in_ok-items.items c.in_ok-items.ensures) c.keep.ensures.kept

pub follow-requires-clause-sets : goal.follow-requires-clause-sets
follow-requires-clause-sets c = ((c.requires.found).are).sets
