use Rattle.std.proofs.Common.{[], sym, subst}
use Rattle.sel_forest.specs.OpenNodes.{opened, Holds}
use Rattle.sel_forest.specs.Pieces.{view}
use Rattle.sel_forest.proofs.PutDown.{few_nodes}
use Rattle.sel_forest.proofs.Standing.{opened-snoc}
use Rattle.sel_forest.proofs.build.TreeBuilderTaker.take.Goals as goal

pub take-requires : goal.take-requires
take-requires c =
    let (g, trees, ts, built, right) = c.requires in
    record { room = few_nodes (opened g ts) c.args.self.now.stack.items c.args.self.now.nodes.items built.holds right.small; lawful = right.lawful }

pub returns : goal.returns
returns c = λ g trees ts built right. record {
  trees_are = built.trees_are;
  holds = subst (λ os. Holds os c.take.new.stack.items c.take.new.nodes.items) (sym (opened-snoc g [] ts (view c.args.piece.now)))
      (c.in_ok-take.ensures g (opened g ts) right.named built.holds right.takes);
}
