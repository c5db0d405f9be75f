use Rattle.std.proofs.Common.{◌≡◌, refl, subst, arith}
use Rattle.sel_forest.proofs.Roots.{some_node}
use Rattle.sel_items.specs.declared.label.Label.TheVariants.{Numbered}
use Rattle.sel_label.proofs.NodeTrees.{valid_node}
use Rattle.sel_rows.specs.Told.{told_of_pass}
use Rattle.sel_rows_cases.proofs.Leaves.{label_there}
use Rattle.sel_rows_cases.proofs.meeting.find_above.Goals as goal

pub find_transition-seen-requires : goal.find_transition-seen-requires
find_transition-seen-requires g c =
    let grammar = c.args.accepted.now.grammar in
    let tree = c.args.leaf.now in
    let n = c.in-Some-Numbered.number in
    let valid = c.requires.leaf in
    let labelled = c.in_ok-labels.ensures.labelled grammar c.requires.form valid in
    let node = valid_node grammar tree 0 valid (some_node tree.nodes valid.plain valid.postorder) in
    let m = labelled.mean 0 node.0 node.1 in
    let same : m.0 ≡ Numbered n = label_there m.0 c.in-Some-Numbered.field-0.now _ n m.1 c.in-Some-Numbered.ensures.value c.in-Some-Numbered.field-0-is in
    record {
      key = record {
        kids = omega arith;
        right = λ _. refl;
        held = (m.2.0, subst (λ l. (told_of_pass c.label_tree.new.automaton).means l m.2.0) same m.2.1);
      };
    }
