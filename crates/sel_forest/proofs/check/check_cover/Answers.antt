-- The walk's answers at the loop's ends.
use Rattle.std.proofs.Common.{arith, ◌≡◌, ◌++◌, ◌∷◌, [], length, get_or, take, drop, ◌+◌, ◌-◌, sym, ap, ◌∙◌, subst}
use Rattle.std.proofs.lemmas.Int.{ints}
use Rattle.sel_base.specs.declared.pair.Pair.{Pair}
use Rattle.sel_grammar.specs.Costs.{no_cost}
use Rattle.sel_forest.specs.declared.walk.Goal.{Goal}
use Rattle.sel_forest.specs.Goals.{IsApplied}
use Rattle.sel_forest.proofs.Roots.{some_node, stands_root}
use Rattle.sel_forest.proofs.Walking.{so_far_first, too_long_at, no_rule_at, so_far_at, too_short_at, end_at, none_checked, some_checked, nil_of_none, IsSoFar}
use Rattle.sel_forest.proofs.check.check_cover.Goals as goal

pub overflow_sub-nodes : goal.overflow_sub-nodes
overflow_sub-nodes c = let (t, postorder, small) = c.requires.tree in some_node c.as_slice-nodes.result.now t (c.as_slice-nodes.ensures ∙ postorder)

pub numbers-init : goal.numbers-init
numbers-init c =
    let (t, postorder, small) = c.requires.tree in
    let g = c.args.grammar.now in
    let nodes = c.as_slice-nodes.result.now in
    let root : Goal = record { at = length nodes - 1; nonterminal = g.start } in
    record {
      first = omega arith;
      second = omega (arith, ints);
      so_far = subst (λ x. IsSoFar g nodes root c.args.rules.now [] c.args.rules.now no_cost x) (sym (c.in_ok-push.ensures.items ∙ ap (λ x. x ++ root ∷ []) c.new-stack.ensures.items))
          (so_far_first g nodes root c.args.rules.now t (stands_root nodes t (c.as_slice-nodes.ensures ∙ postorder)));
    }

pub returns-in_default : goal.returns-in_default
returns-in_default c = λ t postorder.
    let g = c.args.grammar.now in
    let nodes = c.as_slice-nodes.result.now in
    let none : c.numbers.stack.items ≡ [] = nil_of_none c.numbers.stack.items (omega (arith, c.in_default.ensures)) in
    none_checked g nodes t (c.as_slice-nodes.ensures ∙ postorder) c.args.rules.now
    (too_long_at g nodes _ c.args.rules.now c.numbers.number-index c.numbers.total c.numbers.stack.items c.numbers-test.true none c.numbers.invariant.so_far)

pub returns-in-None : goal.returns-in-None
returns-in-None c = λ t postorder.
    let g = c.args.grammar.now in
    let nodes = c.as_slice-nodes.result.now in
    none_checked g nodes t (c.as_slice-nodes.ensures ∙ postorder) c.args.rules.now
    (no_rule_at g nodes _ c.args.rules.now c.numbers.number-index c.numbers.total c.pop.new.self.items c.numbers.stack.items c.in-Some.goal c.numbers-test.true c.in-Some.ensures.items c.numbers.invariant.so_far
    (subst (λ o. IsApplied g nodes c.in-Some.goal (get_or c.args.rules.now c.numbers.number-index 0) c.pop.new.self.items c.apply.new.stack.items o) c.in-None.is c.in_ok-cost.ensures))

pub numbers-preserved : goal.numbers-preserved
numbers-preserved c =
    let g = c.args.grammar.now in
    let nodes = c.as_slice-nodes.result.now in
    let root : Goal = record { at = length nodes - 1; nonterminal = g.start } in
    record {
      first = let p = ap (λ (t : Pair). t.first) c.plus-total.ensures in let h = c.numbers.invariant.first in omega arith;
      second = let p = ap (λ (t : Pair). t.second) c.plus-total.ensures in let h = c.numbers.invariant.second in omega (arith, ints);
      so_far = subst (λ x. IsSoFar g nodes root c.args.rules.now (take (c.numbers.number-index + 1) c.args.rules.now) (drop (c.numbers.number-index + 1) c.args.rules.now) x c.apply.new.stack.items) (sym c.plus-total.ensures)
          (so_far_at g nodes root c.args.rules.now c.numbers.number-index c.numbers.total c.pop.new.self.items c.numbers.stack.items c.apply.new.stack.items c.in-Some.goal c.in-Some-2.cost
          c.numbers-test.true c.in-Some.ensures.items c.numbers.invariant.so_far
          (subst (λ o. IsApplied g nodes c.in-Some.goal (get_or c.args.rules.now c.numbers.number-index 0) c.pop.new.self.items c.apply.new.stack.items o) c.in-Some-2.is c.in_ok-cost.ensures));
    }

pub returns-then-is_empty : goal.returns-then-is_empty
returns-then-is_empty c = λ t postorder.
    let g = c.args.grammar.now in
    let nodes = c.as_slice-nodes.result.now in
    some_checked g nodes t (c.as_slice-nodes.ensures ∙ postorder) c.args.rules.now c.numbers.total
    (end_at g nodes _ c.args.rules.now c.numbers.number-index c.numbers.total c.numbers.stack.items c.numbers-test.false (grind (arith, c.is_empty.ensures, c.if-is_empty.true)) c.numbers.invariant.so_far)

pub returns : goal.returns
returns c = λ t postorder.
    let g = c.args.grammar.now in
    let nodes = c.as_slice-nodes.result.now in
    none_checked g nodes t (c.as_slice-nodes.ensures ∙ postorder) c.args.rules.now
    (too_short_at g nodes _ c.args.rules.now c.numbers.number-index c.numbers.total c.numbers.stack.items c.numbers-test.false (λ e. grind (arith, c.is_empty.ensures, c.if-is_empty.false, e)) c.numbers.invariant.so_far)
