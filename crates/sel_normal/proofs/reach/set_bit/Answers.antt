use Rattle.sel_normal.proofs.Bits.{set_bit_leads}
use Rattle.sel_normal.proofs.reach.set_bit.Goals as goal

pub returns : goal.returns
returns c = set_bit_leads c.args.rows.now c.args.from c.args.to c.requires.from c.requires.to
