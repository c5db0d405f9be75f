use Rattle.sel_full.specs.Taking.{key_at}
use Rattle.sel_full.proofs.Numbered.{more_one, number_found}
use Rattle.sel_full.proofs.numbering.number_key.Goals as goal

pub returns : goal.returns
returns c =
    let key = key_at c.args.states.now c.args.operator c.args.class c.args.first c.args.second in
    more_one c.args.normal.now c.args.states.now c.args.numbers.now c.push.new.self key c.find.result c.in_ok-push.ensures.ok
    (number_found c.args.normal.now c.args.states.now c.args.operator c.args.class c.args.first c.args.second c.in_ok-items.items c.find.result c.requires.may c.in_ok-items.ensures c.find.ensures)
