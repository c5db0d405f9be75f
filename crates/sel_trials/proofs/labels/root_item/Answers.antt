-- The root has a label that means its item set, and an item's look-up keeps what labels mean.
use Rattle.std.proofs.Common.{sym, ◌∙◌, subst}
use Rattle.sel_forest.proofs.Roots.{some_node}
use Rattle.sel_label.specs.Labelling.{LabelsMean}
use Rattle.sel_reduce.proofs.Answer.{root_items}
use Rattle.sel_trials.proofs.labels.root_item.Goals as goal

pub overflow_sub-root : goal.overflow_sub-root
overflow_sub-root g c = some_node c.as_slice-nodes.result.now (c.requires.tree).plain (c.as_slice-nodes.ensures ∙ (c.requires.tree).postorder)

pub item_at-requires-clause-items : goal.item_at-requires-clause-items
item_at-requires-clause-items g c =
    let nodes = c.as_slice-nodes.result.now in
    let t = c.requires.tree in
    root_items c.args.accepted.now.grammar c.args.accepted.now.normal nodes t.plain c.requires.form (c.as_slice-nodes.ensures ∙ t.postorder) (g.A.Automaton.told c.args.automaton.now).means c.args.labels.now.of
    (subst (λ x. LabelsMean c.args.accepted.now.grammar (g.A.Automaton.told c.args.automaton.now).means x c.args.labels.now.of) (sym c.as_slice-nodes.ensures) (c.requires.labelled).mean)

pub returns-clause-labelled : goal.returns-clause-labelled
returns-clause-labelled g c = record {
  long = (c.requires.labelled).long;
  mean = λ i u at. let m = (c.requires.labelled).mean i u at in (m.0, m.1, (m.2.0, c.item_at.ensures.keeps m.0 m.2.0 m.2.1, m.2.2));
}
