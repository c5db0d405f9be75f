use Rattle.std.proofs.Common.{arith}
use Rattle.sel_law.proofs.Tell.{looks}
use Rattle.sel_law.proofs.SharedWords.look_as.Goals as goal

pub load-requires : goal.load-requires
load-requires g c = (c.requires.of, (let w = c.requires.word in omega arith), looks c.args.self.now.table.shared.key c.args.self.now.table.shared.table_id.slots c.args.seat.now.id c.args.seat.now.me g.J.Doing.asks c.args.word c.requires.word.0 (let w = c.requires.word.1 in omega arith) c.requires.seated)
