-- One node after the other gets its label, and keeps it.
use Rattle.std.proofs.Common.{arith, rules, ◌≡◌, ◌≤◌, ◌+◌, ◌++◌, ◌∷◌, [], length, ap, sym, ◌∙◌, subst}
use Rattle.std.proofs.lemmas.List.{length_push}
use Rattle.sel_grammar.specs.declared.grammar.Grammar.{Grammar}
use Rattle.sel_forest.specs.Valid.{IsValidTree}
use Rattle.sel_items.specs.Automata.{IsHit}
use Rattle.sel_items.specs.Laws.{IsAcceptedForm}
use Rattle.sel_label.specs.Labelling.{AreLabelled, AddsNumberedKeys, IsOfNumber, AreAllNumbered, AreAllReady}
use Rattle.sel_label.specs.Fronts.{AreLabelledTo}
use Rattle.sel_items.proofs.Telling.{keeps_then}
use Rattle.sel_label.proofs.Growing.{numbered_keys, adds_step, adds_pushed, adds_whole, all_pushed, hit_numbered}
use Rattle.sel_label.proofs.NodeTrees.{valid_few}
use Rattle.sel_label.proofs.Whole.{whole}
use Rattle.sel_label.proofs.labels.label_tree.Goals as goal

pub label_node-requires-clause-labels : goal.label_node-requires-clause-labels
label_node-requires-clause-labels g c =
    let (h, accepted, valid) = c.requires.grammar in
    (h, accepted, valid, subst (AreLabelledTo h c.args.tree.now.nodes (g.A.Automaton.told c.loop-at.automaton)) (sym c.as_slice.ensures.value) (c.loop-at.invariant.labelled h accepted valid))

pub label_node-requires-clause-room : goal.label_node-requires-clause-room
label_node-requires-clause-room g c =
    let (h, accepted, valid) = c.requires.grammar in
    let few = valid_few h c.args.tree.now valid in
    let plain = c.loop-at.invariant.plain_labels in
    let at = c.loop-at-test.true in
    let count = c.len-count.ensures in
    omega arith

pub returns-in_err-label-clause-adds : goal.returns-in_err-label-clause-adds
returns-in_err-label-clause-adds g c = λ h accepted valid.
    let old = g.A.Automaton.told c.args.automaton.now in
    let s = g.A.Automaton.told c.loop-at.automaton in
    let t = g.A.Automaton.told c.label_node.new.automaton in
    let i = c.loop-at.invariant in
    let e = c.label_node.ensures in
    let ls = c.loop-at.labels.items in
    let nodes = c.args.tree.now.nodes in
    let labelled : (h : Grammar) → IsAcceptedForm h c.args.normal.now → IsValidTree h c.args.tree.now → AreLabelledTo h nodes s c.as_slice.result.now =
    λ h accepted valid. subst (AreLabelledTo h nodes s) (sym c.as_slice.ensures.value) (i.labelled h accepted valid) in
    let few : t.plain_labels ≤ length nodes = (let x = e.grows.plain_labels in let y = i.plain_labels in let z = c.loop-at-test.true in let w = c.len-count.ensures in omega arith) in
    adds_whole h nodes old t (ls ++ []) (length ls + 1) (adds_step h nodes old s t ls c.as_slice.result.now [] e.grows.keeps c.as_slice.ensures.value (i.adds h accepted valid) (e.adds h accepted valid (labelled h accepted valid))) few

pub returns-in_err-label-clause-hit : goal.returns-in_err-label-clause-hit
returns-in_err-label-clause-hit g c = λ h accepted valid ready.
    let old = g.A.Automaton.told c.args.automaton.now in
    let s = g.A.Automaton.told c.loop-at.automaton in
    let t = g.A.Automaton.told c.label_node.new.automaton in
    let i = c.loop-at.invariant in
    let e = c.label_node.ensures in
    let ls = c.loop-at.labels.items in
    let nodes = c.args.tree.now.nodes in
    let labelled : (h : Grammar) → IsAcceptedForm h c.args.normal.now → IsValidTree h c.args.tree.now → AreLabelledTo h nodes s c.as_slice.result.now =
    λ h accepted valid. subst (AreLabelledTo h nodes s) (sym c.as_slice.ensures.value) (i.labelled h accepted valid) in
    let hit : (h : Grammar) → IsAcceptedForm h c.args.normal.now → IsValidTree h c.args.tree.now → AreAllReady h nodes old → IsHit s t c.label_node.result c.loop-at.steps c.label_node.new.steps =
    λ h accepted valid ready. let x = i.hit h accepted valid ready in e.hit h accepted valid (labelled h accepted valid) (subst AreAllNumbered (sym c.as_slice.ensures.value) x.1) x.2 in
    ((hit h accepted valid ready).no_step ∙ (i.hit h accepted valid ready).0, search rules)

pub returns-in_err-push-clause-adds : goal.returns-in_err-push-clause-adds
returns-in_err-push-clause-adds g c = λ h accepted valid.
    let old = g.A.Automaton.told c.args.automaton.now in
    let s = g.A.Automaton.told c.loop-at.automaton in
    let t = g.A.Automaton.told c.label_node.new.automaton in
    let i = c.loop-at.invariant in
    let e = c.label_node.ensures in
    let ls = c.loop-at.labels.items in
    let nodes = c.args.tree.now.nodes in
    let labelled : (h : Grammar) → IsAcceptedForm h c.args.normal.now → IsValidTree h c.args.tree.now → AreLabelledTo h nodes s c.as_slice.result.now =
    λ h accepted valid. subst (AreLabelledTo h nodes s) (sym c.as_slice.ensures.value) (i.labelled h accepted valid) in
    let few : t.plain_labels ≤ length nodes = (let x = e.grows.plain_labels in let y = i.plain_labels in let z = c.loop-at-test.true in let w = c.len-count.ensures in omega arith) in
    adds_whole h nodes old t (ls ++ []) (length ls + 1) (adds_step h nodes old s t ls c.as_slice.result.now [] e.grows.keeps c.as_slice.ensures.value (i.adds h accepted valid) (e.adds h accepted valid (labelled h accepted valid))) few

pub returns-in_err-push-clause-hit : goal.returns-in_err-push-clause-hit
returns-in_err-push-clause-hit g c = λ h accepted valid ready.
    let old = g.A.Automaton.told c.args.automaton.now in
    let s = g.A.Automaton.told c.loop-at.automaton in
    let t = g.A.Automaton.told c.label_node.new.automaton in
    let i = c.loop-at.invariant in
    let e = c.label_node.ensures in
    let ls = c.loop-at.labels.items in
    let nodes = c.args.tree.now.nodes in
    let labelled : (h : Grammar) → IsAcceptedForm h c.args.normal.now → IsValidTree h c.args.tree.now → AreLabelledTo h nodes s c.as_slice.result.now =
    λ h accepted valid. subst (AreLabelledTo h nodes s) (sym c.as_slice.ensures.value) (i.labelled h accepted valid) in
    let hit : (h : Grammar) → IsAcceptedForm h c.args.normal.now → IsValidTree h c.args.tree.now → AreAllReady h nodes old → IsHit s t c.label_node.result c.loop-at.steps c.label_node.new.steps =
    λ h accepted valid ready. let x = i.hit h accepted valid ready in e.hit h accepted valid (labelled h accepted valid) (subst AreAllNumbered (sym c.as_slice.ensures.value) x.1) x.2 in
    ((hit h accepted valid ready).no_step ∙ (i.hit h accepted valid ready).0, search rules)

pub loop-at-preserved : goal.loop-at-preserved
loop-at-preserved g c =
    let old = g.A.Automaton.told c.args.automaton.now in
    let s = g.A.Automaton.told c.loop-at.automaton in
    let t = g.A.Automaton.told c.label_node.new.automaton in
    let i = c.loop-at.invariant in
    let e = c.label_node.ensures in
    let ls = c.loop-at.labels.items in
    let nodes = c.args.tree.now.nodes in
    let labelled : (h : Grammar) → IsAcceptedForm h c.args.normal.now → IsValidTree h c.args.tree.now → AreLabelledTo h nodes s c.as_slice.result.now =
    λ h accepted valid. subst (AreLabelledTo h nodes s) (sym c.as_slice.ensures.value) (i.labelled h accepted valid) in
    let l = c.in_ok-label.label in
    let pushed : c.push.new.self.items ≡ ls ++ l ∷ [] = c.in_ok-push.ensures.items in
    record {
      fixed = e.fixed ∙ i.fixed;
      long = ap length pushed ∙ length_push ls l ∙ ap (λ n. n + 1) i.long;
      labelled = λ h accepted valid.
          subst (AreLabelledTo h nodes t) (ap (λ x. x ++ l ∷ []) c.as_slice.ensures.value ∙ sym pushed) (c.in_ok-label.ensures.labelled h accepted valid (labelled h accepted valid));
      adds = λ h accepted valid. adds_pushed h nodes old s t ls c.as_slice.result.now c.push.new.self.items l e.grows.keeps c.as_slice.ensures.value pushed (i.adds h accepted valid) (e.adds h accepted valid (labelled h accepted valid));
      plain_labels = (let x = i.plain_labels in let y = e.grows.plain_labels in omega arith);
      keeps = keeps_then old s t i.keeps e.grows.keeps;
      hit = λ h accepted valid ready.
          let x = i.hit h accepted valid ready in
          let y = c.in_ok-label.ensures.hit h accepted valid (labelled h accepted valid) (subst AreAllNumbered (sym c.as_slice.ensures.value) x.1) x.2 in
          (y.no_step ∙ x.0, all_pushed ls c.push.new.self.items l pushed (hit_numbered l y.number y.label) x.1, λ n u k root is. y.ready k (x.2 n u k root is));
      steps = (let x = i.steps in let y = e.steps in omega arith);
    }

pub returns-clause-labelled : goal.returns-clause-labelled
returns-clause-labelled g c = λ h accepted valid.
    let s = g.A.Automaton.told c.loop-at.automaton in
    let ls = c.loop-at.labels.items in
    let nodes = c.args.tree.now.nodes in
    let long : length ls ≡ length nodes = (let x = c.loop-at.invariant.long in let y = c.loop-at-test.false in let z = c.loop-at.auto._at-end in let w = c.len-count.ensures in omega arith) in
    subst (AreLabelled h nodes s) (sym c.from_vec.ensures) (whole h nodes s ls long (c.loop-at.invariant.labelled h accepted valid))

pub returns-clause-numbered : goal.returns-clause-numbered
returns-clause-numbered g c = λ h accepted valid.
    let old = g.A.Automaton.told c.args.automaton.now in
    let s = g.A.Automaton.told c.loop-at.automaton in
    let ls = c.loop-at.labels.items in
    let nodes = c.args.tree.now.nodes in
    subst (λ x. AddsNumberedKeys h nodes x old.asked s.asked) (sym c.from_vec.ensures) (numbered_keys h nodes (IsOfNumber s) ls (length ls) old.asked s.asked (c.loop-at.invariant.adds h accepted valid).asked)

pub returns-clause-adds : goal.returns-clause-adds
returns-clause-adds g c = λ h accepted valid.
    let old = g.A.Automaton.told c.args.automaton.now in
    let s = g.A.Automaton.told c.loop-at.automaton in
    let ls = c.loop-at.labels.items in
    let nodes = c.args.tree.now.nodes in
    adds_whole h nodes old s ls (length ls) (c.loop-at.invariant.adds h accepted valid) (let x = c.loop-at.invariant.plain_labels in let z = c.loop-at.auto._at-end in let w = c.len-count.ensures in omega arith)
