-- The call is that of the first node without a label.
use Rattle.std.proofs.Common.{ap, sym, ◌∙◌, subst}
use Rattle.sel_grammar.specs.declared.grammar.Grammar.{Grammar}
use Rattle.sel_normal.specs.NormalForms.{NormalForm}
use Rattle.sel_items.specs.Laws.{IsAcceptedForm}
use Rattle.sel_forest.specs.Valid.{IsValidTree}
use Rattle.sel_forest.proofs.PlaceLemmas.{if_ok_map}
use Rattle.sel_label.specs.Fronts.{AreLabelledTo}
use Rattle.sel_label.proofs.Calls.{IsOwnCall, own_call, labelled_more, own_ready}
use Rattle.sel_label.proofs.Fitting.{Asked}
use Rattle.sel_label.proofs.NewLabels.{new_adds}
use Rattle.sel_label.proofs.labels.label_node.Goals as goal

pub label-requires : goal.label-requires
label-requires g c =
    let A = g.A.Automaton in
    let s = A.told c.args.automaton.now in
    let (h, accepted, valid, labelled) = c.requires.labels in
    let own = own_call h c.args.tree.now s c.args.labels.now
    (subst (IsAcceptedForm h) (sym c.requires.normal) accepted) (g.met.A.Automaton.one c.args.automaton.now) valid labelled c.requires.more
    c.as_slice-nodes.result.now c.index-nodes-at.result c.classes.result.now c.class_of_node-class.result c.first_label.result c.second_label.result
    c.as_slice-nodes.ensures c.index-nodes-at.is (c.classes.ensures ∙ ap (λ (n : NormalForm). n.tests) (sym c.requires.normal)) c.class_of_node-class.ensures c.first_label.ensures c.second_label.ensures in
    record { may = record { kids = ((own.fits).kids, (own.fits).are, (own.fits).sets); over = (own.fits).over; lawful = (own.fits).lawful; room = c.requires.room } }

pub returns : goal.returns
returns g c =
    let A = g.A.Automaton in
    let s = A.told c.args.automaton.now in
    let t = A.told c.label.new.self in
    let e = c.label.ensures in
    let asked : Asked = record { operator = c.index-nodes-at.result.operator; class = c.class_of_node-class.result; first = c.first_label.result; second = c.second_label.result } in
    let nodes = c.args.tree.now.nodes in
    let labels = c.args.labels.now in
    let form : (h : Grammar) → IsAcceptedForm h c.args.normal.now → IsAcceptedForm h s.normal = λ h accepted. subst (IsAcceptedForm h) (sym c.requires.normal) accepted in
    let own : (h : Grammar) → IsAcceptedForm h c.args.normal.now → IsValidTree h c.args.tree.now → AreLabelledTo h nodes s labels → IsOwnCall h nodes s labels asked = λ h accepted valid labelled. own_call h c.args.tree.now s labels (form h accepted) (g.met.A.Automaton.one c.args.automaton.now) valid labelled c.requires.more c.as_slice-nodes.result.now c.index-nodes-at.result c.classes.result.now c.class_of_node-class.result c.first_label.result c.second_label.result c.as_slice-nodes.ensures c.index-nodes-at.is (c.classes.ensures ∙ ap (λ (n : NormalForm). n.tests) (sym c.requires.normal)) c.class_of_node-class.ensures c.first_label.ensures c.second_label.ensures in
    record {
      fixed = e.fixed;
      labelled = if_ok_map c.label.result _ _ (λ l given h accepted valid labelled.
          labelled_more h nodes s t labels (form h accepted) e.grows.keeps e.grows.means asked labelled (own h accepted valid labelled) l given) e.labelled;
      adds = λ h accepted valid labelled.
          let o = own h accepted valid labelled in
          new_adds h nodes s t labels (form h accepted) e.grows.keeps o.tree o.root o.over asked o.fits e.adds;
      grows = e.grows;
      hit = λ h accepted valid labelled numbered ready. e.hit (own_ready h nodes s labels asked (own h accepted valid labelled) numbered ready);
      steps = e.steps;
    }
