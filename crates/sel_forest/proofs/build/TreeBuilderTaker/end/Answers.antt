use Rattle.std.proofs.Common.{◌++◌, ◌∷◌, [], sym, ◌∙◌, subst}
use Rattle.sel_forest.specs.OpenNodes.{own_node, Holds}
use Rattle.sel_forest.proofs.PutDown.{root_nodes}
use Rattle.sel_forest.proofs.build.TreeBuilderTaker.end.Goals as goal

pub returns : goal.returns
returns c = λ g trees ts tree built tokens line.
    let held : Holds (tokens.root ∷ []) c.args.self.now.stack.items c.args.self.now.nodes.items =
    subst (λ os. Holds os c.args.self.now.stack.items c.args.self.now.nodes.items) tokens.opened_is built.holds in
    let (stack, nodes, more) = c.in_ok-finish.ensures (own_node 0 tokens.root) held.stack_is in
    let same = root_nodes tokens.root c.args.self.now.stack.items c.args.self.now.nodes.items held ∙ sym tokens.postorder in
    record {
      trees_are = more ∙ (λ j. built.trees_are j ++ record { nodes = same j } ∷ []);
      holds = record { stack_is = stack; nodes_are = nodes };
    }
