-- The walk begins at the root, takes the best rule for each goal, and ends with the best cover.
use Rattle.std.proofs.Common.{◌≡◌, ◌-◌, ◌<◌, [], length, sym, ◌∙◌, subst, arith}
use Rattle.sel_grammar.specs.Costs.{no_cost}
use Rattle.sel_forest.specs.Covers.{IsBestCover}
use Rattle.sel_forest.specs.declared.walk.Goal.{Goal}
use Rattle.sel_forest.proofs.Roots.{some_node}
use Rattle.sel_forest.proofs.Walking.{nil_of_none}
use Rattle.sel_normal.specs.NormalForms.{NormalForm}
use Rattle.sel_items.proofs.Telling.{read_then}
use Rattle.sel_label.specs.Labelling.{LabelsMean}
use Rattle.sel_reduce.specs.Goals.{IsHalfReduced}
use Rattle.sel_reduce.proofs.Answer.{root_items, root_none, root_half, root_cover, none_of, some_of}
use Rattle.sel_reduce.proofs.Reducing.{goal_low, turn_items, turn_some, turn_from, turn_to, turn_small, turn_half, turn_lighter}
use Rattle.sel_reduce.proofs.reducer.reduce.Goals as goal

pub overflow_sub-root : goal.overflow_sub-root
overflow_sub-root g c = some_node c.as_slice-nodes.result.now (c.requires.tree).plain (c.as_slice-nodes.ensures ∙ (c.requires.tree).postorder)

pub entry_for-first-requires-clause-items : goal.entry_for-first-requires-clause-items
entry_for-first-requires-clause-items g c =
    let nodes = c.as_slice-nodes.result.now in
    let t = c.requires.tree in
    root_items c.args.grammar.now c.args.normal.now nodes t.plain c.requires.form (c.as_slice-nodes.ensures ∙ t.postorder) (g.A.Automaton.told c.args.automaton.now).means c.args.labels.now.of
    (subst (λ x. LabelsMean c.args.grammar.now (g.A.Automaton.told c.args.automaton.now).means x c.args.labels.now.of) (sym c.as_slice-nodes.ensures) (c.requires.labelled).mean)

pub returns-then-is_none-clause-answer : goal.returns-then-is_none-clause-answer
returns-then-is_none-clause-answer g c = λ t postorder.
    let nodes = c.as_slice-nodes.result.now in
    root_none c.args.grammar.now c.args.normal.now nodes t c.requires.form (c.as_slice-nodes.ensures ∙ postorder) (g.A.Automaton.told c.args.automaton.now).means c.args.labels.now.of
    (subst (λ x. LabelsMean c.args.grammar.now (g.A.Automaton.told c.args.automaton.now).means x c.args.labels.now.of) (sym c.as_slice-nodes.ensures) (c.requires.labelled).mean)
    (λ i m. none_of c.entry_for-first.result c.is_none.result c.is_none.ensures c.if-is_none.true ∙ c.entry_for-first.ensures.entry i m)

pub loop-goal-init : goal.loop-goal-init
loop-goal-init g c =
    let nodes = c.as_slice-nodes.result.now in
    let t = c.requires.tree in
    let root : Goal = record { at = length nodes - 1; nonterminal = c.args.grammar.now.start } in
    let (item, is) = some_of c.entry_for-first.result c.is_none.result c.is_none.ensures c.if-is_none.false in
    let half =
    root_half c.args.grammar.now c.args.normal.now nodes t.plain c.requires.form (c.as_slice-nodes.ensures ∙ t.postorder) (g.A.Automaton.told c.args.automaton.now).means c.args.labels.now.of
    (subst (λ x. LabelsMean c.args.grammar.now (g.A.Automaton.told c.args.automaton.now).means x c.args.labels.now.of) (sym c.as_slice-nodes.ensures) (c.requires.labelled).mean)
    t.small item (λ i m. is ∙ c.entry_for-first.ensures.entry i m) in
    record {
      half = subst (λ r. IsHalfReduced c.args.grammar.now nodes root r c.in_ok-walk.walk.cost c.in_ok-walk.walk.goals.items) (sym c.in_ok-walk.ensures.rules)
          (subst (λ x. IsHalfReduced c.args.grammar.now nodes root [] x c.in_ok-walk.walk.goals.items) (sym c.in_ok-walk.ensures.cost)
          (subst (λ x. IsHalfReduced c.args.grammar.now nodes root [] no_cost x) (sym c.in_ok-walk.ensures.goals) half));
      fixed = c.entry_for-first.ensures.fixed;
      read = c.entry_for-first.ensures.read;
    }

pub entry_for-requires-clause-items : goal.entry_for-requires-clause-items
entry_for-requires-clause-items g c =
    let nodes = c.as_slice-nodes.result.now in
    let w = c.loop-goal.walk in
    turn_items c.args.grammar.now c.args.normal.now nodes c.requires.form (record { at = length nodes - 1; nonterminal = c.args.grammar.now.start }) c.in-Some.goal w.rules.items w.cost w.goals.items c.pop.new.self.items
    c.loop-goal.invariant.half c.in-Some.ensures.items
    c.args.tree.now.nodes c.as_slice-nodes.ensures (g.A.Automaton.told c.args.automaton.now).means (g.A.Automaton.told c.loop-goal.automaton).means c.args.labels.now.of (c.requires.labelled).mean c.loop-goal.invariant.read.means

pub entry_for-requires-clause-nonterminal : goal.entry_for-requires-clause-nonterminal
entry_for-requires-clause-nonterminal g c =
    let nodes = c.as_slice-nodes.result.now in
    let w = c.loop-goal.walk in
    subst (λ (n : NormalForm). c.in-Some.goal.nonterminal < n.nonterminals) (sym (c.loop-goal.invariant.read.tables.normal ∙ c.requires.normal))
    (goal_low c.args.grammar.now c.args.normal.now nodes c.requires.form (record { at = length nodes - 1; nonterminal = c.args.grammar.now.start }) c.in-Some.goal w.rules.items w.cost w.goals.items c.pop.new.self.items
    c.loop-goal.invariant.half c.in-Some.ensures.items)

pub unreachable-requires : goal.unreachable-requires
unreachable-requires g c =
    let nodes = c.as_slice-nodes.result.now in
    let w = c.loop-goal.walk in
    turn_some c.args.grammar.now c.args.normal.now nodes c.requires.form (record { at = length nodes - 1; nonterminal = c.args.grammar.now.start }) c.in-Some.goal w.rules.items w.cost w.goals.items c.pop.new.self.items
    c.loop-goal.invariant.half c.in-Some.ensures.items
    c.args.tree.now.nodes c.as_slice-nodes.ensures (g.A.Automaton.told c.args.automaton.now).means (g.A.Automaton.told c.loop-goal.automaton).means c.args.labels.now.of (c.requires.labelled).mean c.loop-goal.invariant.read.means
    c.in-None.ensures.entry

pub take-requires-clause-from : goal.take-requires-clause-from
take-requires-clause-from g c =
    let nodes = c.as_slice-nodes.result.now in
    let w = c.loop-goal.walk in
    turn_from c.args.grammar.now c.args.normal.now nodes c.requires.form (record { at = length nodes - 1; nonterminal = c.args.grammar.now.start }) c.in-Some.goal w.rules.items w.cost w.goals.items c.pop.new.self.items
    c.loop-goal.invariant.half c.in-Some.ensures.items
    c.args.tree.now.nodes c.as_slice-nodes.ensures (g.A.Automaton.told c.args.automaton.now).means (g.A.Automaton.told c.loop-goal.automaton).means c.args.labels.now.of (c.requires.labelled).mean c.loop-goal.invariant.read.means
    c.in-Some-entry_for.item c.in-Some-entry_for.ensures.entry

pub take-requires-clause-to : goal.take-requires-clause-to
take-requires-clause-to g c =
    let nodes = c.as_slice-nodes.result.now in
    let w = c.loop-goal.walk in
    turn_to c.args.grammar.now c.args.normal.now nodes c.requires.form (record { at = length nodes - 1; nonterminal = c.args.grammar.now.start }) c.in-Some.goal w.rules.items w.cost w.goals.items c.pop.new.self.items
    c.loop-goal.invariant.half c.in-Some.ensures.items
    c.args.tree.now.nodes c.as_slice-nodes.ensures (g.A.Automaton.told c.args.automaton.now).means (g.A.Automaton.told c.loop-goal.automaton).means c.args.labels.now.of (c.requires.labelled).mean c.loop-goal.invariant.read.means
    c.in-Some-entry_for.item c.in-Some-entry_for.ensures.entry

pub take-requires-clause-small : goal.take-requires-clause-small
take-requires-clause-small g c =
    let nodes = c.as_slice-nodes.result.now in
    let w = c.loop-goal.walk in
    turn_small c.args.grammar.now c.args.normal.now nodes c.requires.form (record { at = length nodes - 1; nonterminal = c.args.grammar.now.start }) c.in-Some.goal w.rules.items w.cost w.goals.items c.pop.new.self.items
    c.loop-goal.invariant.half c.in-Some.ensures.items
    c.args.tree.now.nodes c.as_slice-nodes.ensures (g.A.Automaton.told c.args.automaton.now).means (g.A.Automaton.told c.loop-goal.automaton).means c.args.labels.now.of (c.requires.labelled).mean c.loop-goal.invariant.read.means
    c.in-Some-entry_for.item c.in-Some-entry_for.ensures.entry

pub loop-goal-smaller : goal.loop-goal-smaller
loop-goal-smaller g c =
    let nodes = c.as_slice-nodes.result.now in
    let w = c.loop-goal.walk in
    let h =
    turn_lighter c.args.grammar.now c.args.normal.now nodes c.requires.form (record { at = length nodes - 1; nonterminal = c.args.grammar.now.start }) c.in-Some.goal w.rules.items w.cost w.goals.items c.pop.new.self.items
    c.loop-goal.invariant.half c.in-Some.ensures.items
    c.args.tree.now.nodes c.as_slice-nodes.ensures (g.A.Automaton.told c.args.automaton.now).means (g.A.Automaton.told c.loop-goal.automaton).means c.args.labels.now.of (c.requires.labelled).mean c.loop-goal.invariant.read.means
    c.in-Some-entry_for.item c.in-Some-entry_for.ensures.entry
    c.take.new.self.rules.items c.take.new.self.cost c.take.new.self.goals.items c.in_ok-take-in-Some-entry_for.ensures in
    let old = w.rules.ok in
    let new = c.take.new.self.rules.ok in
    let small = c.take.new.self.rules.small in
    omega arith

pub loop-goal-preserved : goal.loop-goal-preserved
loop-goal-preserved g c =
    let nodes = c.as_slice-nodes.result.now in
    let w = c.loop-goal.walk in
    let i = c.loop-goal.invariant in
    let e = c.entry_for.ensures in
    let a = g.A.Automaton in
    record {
      half = turn_half c.args.grammar.now c.args.normal.now nodes c.requires.form (record { at = length nodes - 1; nonterminal = c.args.grammar.now.start }) c.in-Some.goal w.rules.items w.cost w.goals.items c.pop.new.self.items
          c.loop-goal.invariant.half c.in-Some.ensures.items
          c.args.tree.now.nodes c.as_slice-nodes.ensures (g.A.Automaton.told c.args.automaton.now).means (g.A.Automaton.told c.loop-goal.automaton).means c.args.labels.now.of (c.requires.labelled).mean c.loop-goal.invariant.read.means
          c.in-Some-entry_for.item c.in-Some-entry_for.ensures.entry
          c.take.new.self.rules.items c.take.new.self.cost c.take.new.self.goals.items c.in_ok-take-in-Some-entry_for.ensures;
      fixed = e.fixed ∙ i.fixed;
      read = read_then (a.told c.args.automaton.now) (a.told c.loop-goal.automaton) (a.told c.entry_for.new.automaton) i.read e.read;
    }

pub returns-clause-answer : goal.returns-clause-answer
returns-clause-answer g c = λ t postorder.
    let nodes = c.as_slice-nodes.result.now in
    let w = c.loop-goal.walk in
    let none : w.goals.items ≡ [] = nil_of_none w.goals.items (omega (arith, c.in_default.ensures)) in
    let half = subst (λ x. IsHalfReduced c.args.grammar.now nodes (record { at = length nodes - 1; nonterminal = c.args.grammar.now.start }) w.rules.items w.cost x) none c.loop-goal.invariant.half in
    subst (λ rules. IsBestCover c.args.grammar.now t (record { cost = w.cost; rules = rules })) (sym c.from_vec.ensures)
    (root_cover c.args.grammar.now c.args.normal.now nodes t c.requires.form (c.as_slice-nodes.ensures ∙ postorder) w.rules.items w.cost half)
