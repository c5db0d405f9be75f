-- The right kid's goal is pushed before the left one's.
use Rattle.std.proofs.Common.{sym}
use Rattle.sel_reduce.proofs.Pushing.{both_pushed, none_pushed}
use Rattle.sel_reduce.proofs.walk.push_kids.Goals as goal

pub returns-in_ok-push_kid-in-Some-2 : goal.returns-in_ok-push_kid-in-Some-2
returns-in_ok-push_kid-in-Some-2 c =
    both_pushed c.args.body c.in-Operator.operator c.in-Operator.first c.in-Operator.second c.in-Operator.test c.args.nodes.now c.args.at c.in-Some.node.now
    c.args.goals.now.items c.push_kid.new.goals.items c.push_kid-in-Some.new.goals.items c.in-Operator.is (sym c.in-Some.ensures) c.in_ok-push_kid-in-Some.ensures c.in_ok-push_kid-in-Some-2.ensures

pub returns-in-None : goal.returns-in-None
returns-in-None c =
    none_pushed c.args.body c.in-Operator.operator c.in-Operator.first c.in-Operator.second c.in-Operator.test c.args.nodes.now c.args.at c.args.goals.now.items c.in-Operator.is (sym c.in-None.ensures)
