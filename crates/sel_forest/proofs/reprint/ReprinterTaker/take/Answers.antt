use Rattle.sel_forest.specs.OpenNodes.{opened}
use Rattle.sel_forest.specs.Pieces.{view}
use Rattle.sel_forest.proofs.Reprinting.{reprinted_token}
use Rattle.sel_forest.proofs.reprint.ReprinterTaker.take.Goals as goal

pub stays_in_print-self-requires : goal.stays_in_print-self-requires
stays_in_print-self-requires c = let (g, trees, ts, printed, right) = c.requires in right.lawful

pub returns : goal.returns
returns c = λ g trees ts printed right.
    reprinted_token g c.args.self.now.text.items c.args.self.now.in_print c.stays_in_print-self.result trees (opened g ts) ts (view c.args.piece.now) printed right.takes c.stays_in_print-self.ensures
