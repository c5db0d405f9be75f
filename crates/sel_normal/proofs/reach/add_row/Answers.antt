use Rattle.sel_normal.proofs.Bits.{add_row_leads}
use Rattle.sel_normal.proofs.reach.add_row.Goals as goal

pub returns : goal.returns
returns c = add_row_leads c.args.rows.now c.args.from c.args.through c.requires.from
